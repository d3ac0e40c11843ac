use Rattle.std.proofs.Common.{◌≡◌, ◌≤◌, ◌<◌, ◌+◌, ◌-◌, ◌++◌, ◌∙◌, ℕ, ap, arith, sym, subst, take, drop, set, length, length-drop, get_or, List}
use Rattle.std.specs.Prelude.{is_ok, vec_len, vec_capacity}
use Rattle.std.proofs.lemmas.List.{take_all}
use Rattle.std.proofs.lemmas.Bool.{cond-true}
use Rattle.block_alloc.specs.declared.runs.Run.{Run}
use Rattle.block_alloc.specs.Runs.{blocks_of, AreNormalRuns}
use Rattle.area_commit.proofs.Seams.{joined, joined_items, apart_normal, joined_blocks, joined_normal}
use Rattle.area_commit.proofs.allocation.put_behind.Goals as goal

pub returns-then-not-go_on-clause-normal : goal.returns-then-not-go_on-clause-normal
returns-then-not-go_on-clause-normal c low end is more_is =
    let runs = c.args.runs.now.items in
    let more = c.args.more.now in
    let none : Run = record { first = 0; count = 0 } in
    let apart : 0 < length runs → 0 < length more → (get_or runs (length runs - 1) none).first + (get_or runs (length runs - 1) none).count ≡ (get_or more 0 none).first → ⊥ =
    subst (λ (l : List Run). 0 < length l → 0 < length more → (get_or l (length l - 1) none).first + (get_or l (length l - 1) none).count ≡ (get_or more 0 none).first → ⊥) c.deref.ensures.value (c.go_on.ensures.apart none c.if-not-go_on.true) in
    let items = c.extend_from_slice.ensures.items ∙ cond-true (is_ok c.extend_from_slice.result) (runs ++ more) runs (c.extend_from_slice.ensures.succeeds c.requires.room) in
    subst (AreNormalRuns low end) (sym items) (apart_normal runs more none low end 0 4294967295 apart is more_is c.requires.rising)

module _ (c : goal.After-extend_from_slice-2) where
  abbrev runs : List Run
  runs = c.args.runs.now.items

  abbrev more : List Run
  more = c.args.more.now

  abbrev last : Run
  last = c.index-last.result.now

  abbrev none : Run
  none = record { first = 0; count = 0 }

  same_len : length runs ≡ vec_len c.args.runs.now
  same_len = ap length (sym c.deref.ensures.value) ∙ c.deref.ensures.len

  some : 0 < length runs
  some = subst (λ (l : List Run). 0 < length l) c.deref.ensures.value (c.go_on.ensures.some c.if-not-go_on.false).0

  others : 0 < length more
  others = (c.go_on.ensures.some c.if-not-go_on.false).1

  touch : (get_or runs (length runs - 1) last).first + (get_or runs (length runs - 1) last).count ≡ (get_or more 0 last).first
  touch = subst (λ (l : List Run). (get_or l (length l - 1) last).first + (get_or l (length l - 1) last).count ≡ (get_or more 0 last).first) c.deref.ensures.value (c.go_on.ensures.touch last c.if-not-go_on.false)

  room : vec_len c.args.runs.now + length (take (length more - 1) (drop 1 more)) ≤ vec_capacity c.args.runs.now
  room = omega (arith, c.requires.room, ap length (take_all (length more - 1) (drop 1 more) (omega (arith, length-drop 1 more))), length-drop 1 more)

  items : c.extend_from_slice-2.new.self.items ≡ set runs (length runs - 1) (joined (get_or runs (length runs - 1) last) (get_or more 0 last)) ++ drop 1 more
  items =
      let j : Run = record { first = last.first; count = last.count + (get_or more 0 none).count } in
      let first = set runs (c.len-end.result - 1) j in
      joined_items runs more c.extend_from_slice-2.new.self.items last none c.len-end.result others (c.len-end.ensures ∙ sym same_len) c.index-last.ensures
      (c.extend_from_slice-2.ensures.items ∙ cond-true (is_ok c.extend_from_slice-2.result) (first ++ take (length more - 1) (drop 1 more)) first (c.extend_from_slice-2.ensures.succeeds room))

  pub one_list : blocks_of c.extend_from_slice-2.new.self.items ≡ blocks_of runs ++ blocks_of more
  one_list = ap blocks_of items ∙ joined_blocks runs more last some others touch

  pub one_normal : (low end : ℕ) → AreNormalRuns low end runs → AreNormalRuns low end more → AreNormalRuns low end c.extend_from_slice-2.new.self.items
  one_normal low end is more_is = subst (AreNormalRuns low end) (sym items) (joined_normal runs more last some others low end touch is more_is)

pub returns-clause-blocks : goal.returns-clause-blocks
returns-clause-blocks c = one_list c

pub returns-clause-normal : goal.returns-clause-normal
returns-clause-normal c = one_normal c
