use mathlib.Core.Path.{refl, sym}
use Rattle.sub_key_list.proofs.Papers.{read_as}
use Rattle.sub_key_walk.specs.Trace.{LEVELS}
use Rattle.sub_key_walk.proofs.Answers.{leaf-refused, leaf-index, leaf_full, leaf_roomy, leaf-whole, leaf_filled}
use Rattle.sub_key_walk.proofs.Profiles.{reading_read}
use Rattle.sub_key_walk.proofs.leaf_sub_keys_by.Goals as goal

pub read_leaf-read-requires : goal.read_leaf-read-requires
read_leaf-read-requires c =
    let a = c.args in
    reading_read a.profile a.image.now LEVELS _ (sym (read_as c.in-Ok-Leaf.field-0-is c.in-Ok-Leaf.ensures))

pub returns-then-out-read : goal.returns-then-out-read
returns-then-out-read c =
    let a = c.args in
    leaf_full a.image.now a.base a.position a.out.now (read_as c.in-Ok-Leaf.field-0-is c.in-Ok-Leaf.ensures) c.read_leaf-read.ensures.counted c.if-out-read.true _ c.full.ensures

pub fill_leaf-requires : goal.fill_leaf-requires
fill_leaf-requires c =
    let a = c.args in
    let e = read_as c.in-Ok-Leaf.field-0-is c.in-Ok-Leaf.ensures in
    let d = c.read_leaf-read.ensures.counted in
    record {
      stands = reading_read a.profile a.image.now LEVELS _ (sym e);
      kept_whole = leaf-whole a.image.now a.base a.position a.out.now e d c.if-out-read.false refl;
      room = leaf_roomy a.image.now a.base a.position a.out.now e d c.if-out-read.false;
    }

pub returns-in-Err : goal.returns-in-Err
returns-in-Err c =
    let a = c.args in
    leaf-refused a.image.now a.base a.position a.out.now _ c.in-Err.ensures _ c.refusal.ensures

pub returns-in-Ok-Index : goal.returns-in-Ok-Index
returns-in-Ok-Index c =
    let a = c.args in
    leaf-index a.image.now a.base a.position a.out.now (read_as c.in-Ok-Index.field-0-is c.in-Ok-Index.ensures) _ c.refusal-in-Ok-Index.ensures

pub returns-else-out-read : goal.returns-else-out-read
returns-else-out-read c =
    let a = c.args in
    leaf_filled a.image.now a.base a.position a.out.now (read_as c.in-Ok-Leaf.field-0-is c.in-Ok-Leaf.ensures) c.read_leaf-read.ensures.counted c.if-out-read.false c.fill_leaf.ensures
