use Rattle.std.proofs.Common.{◌∙◌, ◌+◌, ◌-◌, ◌≤◌, ◌≡◌, length, take, ap, arith, refl}
use Rattle.std.proofs.lemmas.List.{take-replicate}
use Rattle.std.proofs.lemmas.Result.{on_ok_weaker}
use Rattle.host_media.specs.FileBytes.{unknown}
use Rattle.host_media.specs.FileRange.{range_told}
use Rattle.host_media.proofs.ToldTiers.{zeros-all, zeros-more}
use Rattle.host_media.proofs.file_bytes.write_pieces.Goals as goal

pub pieces-init : goal.pieces-init
pieces-init c =
    let all : c.args.len ≡ c.args.len - 0 = omega arith in
    record { within = omega arith; told = c.requires.nothing ∙ ap unknown all; begin = refl }

pub pieces-preserved : goal.pieces-preserved
pieces-preserved c =
    let i = c.pieces.invariant in
    let n = length c.args.zeros.now in
    record {
      within = omega (arith, c.pieces-test.true, i.within);
      told = c.in_ok-write.ensures.written ∙ zeros-more (range_told c.pieces.file) c.pieces.at c.args.len n c.args.zeros.now i.told c.requires.zeros (omega (arith, c.pieces-test.true));
      begin = c.write.ensures.begin ∙ i.begin;
    }

pub returns-clause-written : goal.returns-clause-written
returns-clause-written c =
    let i = c.pieces.invariant in
    let at = c.pieces.at in
    let rest = c.args.len - at in
    let n = length c.args.zeros.now in
    let few : rest ≤ n = omega (arith, c.pieces-test.false) in
    let all : at + rest ≡ c.args.len = omega (arith, i.within) in
    on_ok_weaker c.write-2.result
    (λ last.
    last
    ∙ zeros-more (range_told c.pieces.file) at c.args.len rest _ i.told (ap (take rest) c.requires.zeros ∙ take-replicate rest n 0 few) (omega arith)
    ∙ zeros-all c.args.len (at + rest) all) c.write-2.ensures.written
