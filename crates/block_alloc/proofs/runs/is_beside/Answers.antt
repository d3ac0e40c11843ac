use Rattle.std.proofs.Common.{◌≡◌, ◌≤◌, ◌<◌, ◌+◌, arith, Bool, true, false, get_or, length, refl, inl, inr, ◌⊎◌}
use Rattle.std.proofs.lemmas.Bool.{cases_Bool, not-true}
use Rattle.block_alloc.specs.declared.runs.Run.{Run}
use Rattle.block_alloc.proofs.Search.{apart_at}
use Rattle.block_alloc.proofs.Joins.{overlap_refused}
use Rattle.block_alloc.proofs.runs.is_beside.Goals as goal

pub returns : goal.returns
returns c =
    let none : Run = record { first = 0; count = 0 } in
    let run = c.args.run in
    let runs = c.args.runs.now in
    let place = c.place_of-place.result in
    let meets = c.begins_before.result in (
      λ t. apart_at run 0 4294967295 place runs c.requires.normal c.place_of-place.ensures.before (λ d lt. c.begins_before.ensures.after d (not-true meets t) lt),
      λ apart. elim (cases_Bool meets) [
        | inl e ↦
            let lt : place < length runs = c.begins_before.ensures.some e in
            absurd (overlap_refused 0 4294967295 run runs place none c.requires.some c.requires.normal lt (c.begins_before.ensures.before none e, omega (arith, c.place_of-place.ensures.next none lt)) apart)
        | inr e ↦ rw e refl
      ],
    )
