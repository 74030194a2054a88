use Rattle.std.proofs.Common.{◌∙◌, arith}
use Rattle.replay_case.specs.Case.{renewed, bit, below}
use Rattle.replay_case.proofs.Laws.{behind}
use Rattle.replay_case.proofs.renew.Goals as goal

pub returns : goal.returns
unfolding renewed
returns c =
    let m = c.args.mask in
    let news = c.args.news.now in
    let old = c.args.old in
    λ i. record {
      a = (c.word.ensures ∙ behind news _ (below m 0) _ (bit m 0) old.a (omega arith) c.bit-bit_a.ensures) i;
      b = (c.word-2.ensures ∙ behind news _ (below m 1) _ (bit m 1) old.b (omega arith) c.bit-bit_b.ensures) i;
      c = (c.word-3.ensures ∙ behind news _ (below m 2) _ (bit m 2) old.c (omega arith) c.bit-bit_c.ensures) i;
      d = (c.word-4.ensures ∙ behind news _ (below m 3) _ (bit m 3) old.d (omega arith) c.bit-bit_d.ensures) i;
      e = (c.word-5.ensures ∙ behind news _ (below m 4) _ (bit m 4) old.e (omega arith) c.bit-bit_e.ensures) i;
      name = (c.word-6.ensures ∙ behind news _ (below m 5) _ (bit m 5) old.name (omega arith) c.bit-bit_name.ensures) i;
      image = (c.word-7.ensures ∙ behind news _ (below m 6) _ (bit m 6) old.image (omega arith) c.bit-bit_image.ensures) i;
    }
