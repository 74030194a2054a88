use mathlib.Core.Path.{refl, ap, ◌∙◌}
use native.Mathlib.Omega.{arith}
use Rattle.sub_key_list.specs.Lists.{word_of}
use Rattle.sub_key_list.specs.declared.Kind.TheVariants.{Ri}
use Rattle.sub_key_list.proofs.Cases.{entries_fit, list_outside, list_cut, list_unknown, list_passes, list-index, list-leaf}
use Rattle.sub_key_list.proofs.ListKinds.{same_kind, entries_take}
use Rattle.sub_key_list.proofs.read_list.Goals as goal

pub returns-then-image-position : goal.returns-then-image-position
returns-then-image-position c =
    c.refuse.ensures ∙ list_outside _ _ c.if-image-position.true

pub returns-then-left-lt8 : goal.returns-then-left-lt8
returns-then-left-lt8 c =
    c.refuse-then-left-lt8.ensures ∙ list_cut _ _ c.if-image-position.false refl c.if-left-lt8.true

pub returns-in_default : goal.returns-in_default
returns-in_default c =
    c.refuse-in_default.ensures ∙ list_unknown _ _ c.if-image-position.false refl c.if-left-lt8.false c.half-signature.ensures c.half-count.ensures refl c.in_default.ensures

pub overflow_mul-entries : goal.overflow_mul-entries
overflow_mul-entries c =
    omega (arith, entries_fit c.entry_size-entry_size.result c.half-count.result c.entry_size-entry_size.type_inv c.half-count.type_inv)

pub returns-then-left-entries : goal.returns-then-left-entries
returns-then-left-entries c =
    c.refuse-then-left-entries.ensures
    ∙ list_passes _ _ c.if-image-position.false refl c.if-left-lt8.false (c.in-Some.ensures ∙ c.half-signature.ensures) c.half-count.ensures c.entry_size-entry_size.ensures
    (λ z. entries_take c.in-Some.kind (let e = c.entry_size-entry_size.ensures in omega (arith, e, z))) c.if-left-entries.true

pub returns-in-Ri : goal.returns-in-Ri
returns-in-Ri c =
    list-index _ _ c.if-image-position.false refl c.if-left-lt8.false (c.in-Some.ensures ∙ c.half-signature.ensures) c.half-count.ensures c.entry_size-entry_size.ensures
    (λ z. entries_take c.in-Some.kind (let e = c.entry_size-entry_size.ensures in omega (arith, e, z))) c.if-left-entries.false (ap word_of c.in-Ri.is)

pub returns-in_default-kind : goal.returns-in_default-kind
returns-in_default-kind c =
    list-leaf _ _ c.if-image-position.false refl c.if-left-lt8.false (c.in-Some.ensures ∙ c.half-signature.ensures) c.half-count.ensures c.entry_size-entry_size.ensures
    (λ z. entries_take c.in-Some.kind (let e = c.entry_size-entry_size.ensures in omega (arith, e, z))) c.if-left-entries.false (λ i. c.in_default-kind.not-Ri (same_kind _ Ri i))
