use Rattle.std.proofs.Common.{inl, refl, arith}
use Rattle.std.proofs.lemmas.Nat.Bits.{bit_at-zero}
use Rattle.strata_threads.proofs.LeaseReturn.{gives_both, gives_nothing, keeps_both}
use Rattle.strata_threads.proofs.Questions.{one_bit_given, one_bit_held, one_bit_more}
use Rattle.strata_threads.proofs.idle_turn.give_bits.Goals as goal

pub loop-bit-init : goal.loop-bit-init
loop-bit-init g c = record {
  answered = λ bit low. absurd (omega (arith, low));
  only = λ bit low is. absurd (omega (arith, bit_at-zero bit, is));
  unasked = λ i word. inl refl;
  given = gives_nothing c.args.client.now;
  kept = (refl, refl, refl);
}

pub loop-bit-preserved : goal.loop-bit-preserved
loop-bit-preserved g c =
    let i = c.loop-bit.invariant in
    let e = c.give_bit-left.ensures in
    record {
      answered = one_bit_more c.loop-bit.client c.give_bit-left.new.client c.args.row c.args.bits c.loop-bit.left c.give_bit-left.result c.loop-bit.bit c.requires.row c.loop-bit-test.true e.given i.answered e.answered e.rest;
      only = one_bit_held c.loop-bit.client c.give_bit-left.new.client c.args.row c.args.bits c.loop-bit.left c.give_bit-left.result c.loop-bit.bit c.requires.row i.only e.only e.rest e.others;
      unasked = one_bit_given c.args.client.now c.loop-bit.client c.give_bit-left.new.client c.args.row c.args.bits c.loop-bit.bit c.loop-bit-test.true i.unasked e.unasked e.others;
      given = gives_both c.args.client.now c.loop-bit.client c.give_bit-left.new.client i.given e.given;
      kept = keeps_both c.args.client.now c.loop-bit.client c.give_bit-left.new.client i.kept e.kept;
    }
