-- Where the pass counts no record of its own on an inode, none behind a mark touches it.
use Rattle.std.proofs.Common.{◌≡◌, ℕ, zero, suc, ◌+◌, true, false, cond, List, [], ◌∷◌, ◌++◌, drop, Option, Some, None, refl, sym, ◌∙◌, arith}
use Rattle.std.specs.Prelude.{◌==◌}
use Rattle.std.proofs.lemmas.List.Sums.{sum_by-cons}
use Rattle.tier_device.specs.declared.media.Media.{Ghosts}
use Rattle.client_log.specs.View.{current_records}
use Rattle.client_log.specs.update_log.Frames.{with_record}
use Rattle.kernel_fs.specs.layout.declared.marks.Mark.{Mark}
use Rattle.lease_manager.specs.RecordCounts.{is_touched, touch_count}
use Rattle.lease_manager.specs.log_record.declared.format.Record.{Record}
use Rattle.libfs.specs.NeedService.{records_behind}
use Rattle.libfs.specs.View.{ClientView, begun_record, own_records}

-- none of these records touches an inode
abbrev pub TouchNone : ℕ → List Record → Type 0
TouchNone i [] = Unit {0}
TouchNone i (r ∷ rs) = (is_touched r.effects i ≡ false) × TouchNone i rs

none_counted : (i : ℕ) (rs : List Record) → touch_count rs i ≡ 0 → TouchNone i rs
none_counted i [] is = tt
none_counted i (r ∷ rs) is = elim (is_touched r.effects i) as (λ b. is_touched r.effects i ≡ b → cond b 1 0 + touch_count rs i ≡ 0 → TouchNone i (r ∷ rs)) [
  | true ↦ λ touched none. absurd (omega (arith, none))
  | false ↦ λ apart none. (apart, none_counted i rs (omega (arith, none)))
] refl (sym (sum_by-cons (λ (x : Record). cond (is_touched x.effects i) 1 0) r rs) ∙ is)

none_before : (i : ℕ) (rs ss : List Record) → TouchNone i (rs ++ ss) → TouchNone i rs
none_before i [] ss none = tt
none_before i (r ∷ rs) ss none = (none.0, none_before i rs ss none.1)

none_after : (i : ℕ) (rs ss : List Record) → TouchNone i (rs ++ ss) → TouchNone i ss
none_after i [] ss none = none
none_after i (r ∷ rs) ss none = none_after i rs ss none.1

none_both : (i : ℕ) (rs ss : List Record) → TouchNone i rs → TouchNone i ss → TouchNone i (rs ++ ss)
none_both i [] ss one two = two
none_both i (r ∷ rs) ss one two = (one.0, none_both i rs ss one.1 two)

none_from : (i n : ℕ) (rs : List Record) → TouchNone i rs → TouchNone i (drop n rs)
none_from i zero rs none = none
none_from i (suc n) [] none = tt
none_from i (suc n) (r ∷ rs) none = none_from i n rs none.1

none_kept : (i : ℕ) (rs : List Record) (begun : Option Record) → TouchNone i (with_record rs begun) → TouchNone i rs
none_kept i rs None none = none
none_kept i rs (Some r) none = none_before i rs (r ∷ []) none

-- so none behind a mark does
pub none_behind : {M : Type 0} (device : Ghosts M) (v : ClientView M) (mark : Mark) (i : ℕ) → touch_count (own_records device v) i ≡ 0 → TouchNone i (records_behind device v mark)
none_behind device v mark i is = elim (mark.generation == v.log.generation) as (λ b. TouchNone i (cond b (drop mark.done current) (drop mark.done v.sealed ++ current))) [
  | true ↦ none_from i mark.done current (none_after i v.sealed current none)
  | false ↦ none_both i (drop mark.done v.sealed) current (none_from i mark.done v.sealed (none_before i v.sealed current none)) (none_after i v.sealed current none)
]
  where
    current : List Record
    current = current_records device v.log

    none : TouchNone i (v.sealed ++ current)
    none = none_kept i (v.sealed ++ current) (begun_record v.begun) (none_counted i (own_records device v) is)
