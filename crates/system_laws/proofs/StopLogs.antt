-- Which records of a client count in what is left of its two regions, at its mark and once a chunk more is digested.
use Rattle.std.proofs.Common.{◌≡◌, ◌≢◌, ◌⊎◌, inl, inr, ℕ, ◌+◌, ◌-◌, ◌%◌, ◌<◌, cond, Bool, true, false, List, [], ◌∷◌, ◌++◌, drop, length, Option, Some, None, refl, ap, sym, ◌∙◌, subst, arith}
use Rattle.std.specs.Prelude.{IfSome, is_some}
use Rattle.std.proofs.lemmas.Bool.{false≢true}
use Rattle.std.proofs.lemmas.Bool.Decides.{eqb_tells}
use Rattle.std.proofs.lemmas.List.{length-append, length-drop}
use Rattle.std.proofs.Math.Seq.{drop-append_seam, drop-nil}
use Rattle.tier_device.specs.declared.media.Media.{Ghosts}
use Rattle.event_steps.specs.log_record.declared.format.Record.{Record}
use Rattle.event_steps.specs.update_log.Frames.{records, with_record}
use Rattle.event_steps.specs.update_log.RecordCounts.{counted_records, next_generation, records_in, records_under}
use Rattle.event_steps.specs.update_log.View.{RegionView, records_of}
use Rattle.event_steps.specs.update_log.WipeStops.{generation}
use Rattle.event_steps.specs.client_log.Counts.{AreWithOrWithout, CountOf}
use Rattle.event_steps.specs.client_log.HasTurn.{HasTurn, change_in, region_at}
use Rattle.event_steps.specs.client_log.Turns.{place_of, turn_of}
use Rattle.event_steps.specs.client_log.View.{current_records}
use Rattle.event_steps.specs.layout.declared.marks.Mark.{Mark}
use Rattle.event_steps.specs.digester.MarkMoves.{mark_after}
use Rattle.event_steps.specs.world_invariant.ClientParts.{IsMarked}
use Rattle.event_steps.specs.world_invariant.World.{Account, Begun, Client, Away, change_of, undigested_records}
use Rattle.event_steps.specs.libfs.SealedRegion.{SealedRegionView}
use Rattle.event_steps.specs.libfs.View.{ClientView}
use Rattle.event_steps.specs.Sound.{IsAwayFrom, IsSeated}
use Rattle.event_steps.specs.View.{done_of}
use Rattle.event_steps.proofs.world_invariant_lemmas.DigestedParts.{drop_more}
use Rattle.system_laws.specs.Relation.{first_generation}

-- ---- what there is to show

-- A mark's records in two regions are these, with the begun one or without, and its generations are in turn.
pub record CountsAt (regions : ℕ → List ℕ) (m : Mark) (log : List Record) (begun : Option Begun) : Type 0 where
  pub counts : (counted_records m.generation m.done regions ≡ log) ⊎ (counted_records m.generation m.done regions ≡ log ++ change_of begun)
  pub turns : (drop m.done (records_in regions m.generation) ≢ []) ⊎ (records_in regions (next_generation m.generation) ≡ [])

-- What a stop leaves of a region that is away: its records, under its generation.
pub record HoldsSealed {M : Type 0} (device : Ghosts M) (regions : ℕ → List ℕ) (a : SealedRegionView M) : Type 0 where
  pub names : generation (regions (a.generation % 2)) ≡ a.generation
  pub records_are : records (regions (a.generation % 2)) ≡ records_of device a.region

-- What a stop leaves of the two regions of a seat's client.
pub record HoldsSeat {M : Type 0} (device : Ghosts M) (regions : ℕ → List ℕ) (v : ClientView M) (away : Option (SealedRegionView M)) : Type 0 where
  pub counts : CountOf v.log.generation (is_some v.log.other) (current_records device v.log) v.log.current.begun regions
  pub beside : is_some v.log.other ≡ true → records_in regions (next_generation v.log.generation) ≡ []
  pub away_is : IfSome away (HoldsSealed device regions)

-- ---- generations

after_next : (g : ℕ) → next_generation (next_generation g) ≢ g
after_next g is = omega (arith, is)

same_region : (g : ℕ) → next_generation (next_generation g) % 2 ≡ g % 2
same_region g = omega arith

named : (g : ℕ) (content : List ℕ) → generation content ≡ g → records_under g content ≡ records content
named g content is = elim (eqb_tells (generation content) g) [
  | inl same ↦ ap (λ (b : Bool). cond b (records content) []) same.0
  | inr other ↦ absurd (other.1 is)
]

unnamed : (g : ℕ) (content : List ℕ) → generation content ≢ g → records_under g content ≡ []
unnamed g content off = elim (eqb_tells (generation content) g) [
  | inl same ↦ absurd (off same.1)
  | inr other ↦ ap (λ (b : Bool). cond b (records content) []) other.0
]

-- ---- lists

some_left : {A : Type 0} (d : ℕ) (xs : List A) → d < length xs → drop d xs ≢ []
some_left d xs low none = let long = length-drop d xs in let zero_long : length (drop d xs) ≡ 0 = ap length none in omega (arith, long, zero_long, low)

none_in : {A : Type 0} (xs : List A) → length xs ≡ 0 → xs ≡ []
none_in [] e = refl
none_in (x ∷ xs) e = absurd (omega (arith, e))

pub front_none : {A : Type 0} (xs ys : List A) → xs ++ ys ≡ [] → xs ≡ []
front_none xs ys e = none_in xs (let long = length-append xs ys in let none : length (xs ++ ys) ≡ 0 = ap length e in omega (arith, long, none))

-- the begun record of the log is that of the world's client
with_begun : (rs all : List Record) (begun : Option Record) (o : Option Begun) → change_in o ≡ begun → AreWithOrWithout rs begun all → (all ≡ rs) ⊎ (all ≡ rs ++ change_of o)
with_begun rs all begun o is (inl without) = inl without
with_begun rs all begun None is (inr whole) = inl (whole ∙ ap (with_record rs) (sym is))
with_begun rs all begun (Some b) is (inr whole) = inr (whole ∙ ap (with_record rs) (sym is))

here_is_not_away : {M : Type 0} (o : Option (RegionView M)) (clean : Bool) → is_some o ≡ true → region_at (place_of o clean) ≢ Away
here_is_not_away None clean here = absurd (false≢true here)
here_is_not_away (Some r) true here = λ e. absurd (cc e)
here_is_not_away (Some r) false here = λ e. absurd (cc e)

-- ---- one client

module _ {M : Type 0} (device : Ghosts M) (v : ClientView M) (regions : ℕ → List ℕ) (p : Client) (turn : HasTurn (turn_of device v.log) p) where
  abbrev current : List Record
  current = current_records device v.log

  -- at home its current records count, behind the first mark of their generation
  module _ (counts : CountOf v.log.generation (is_some v.log.other) current v.log.current.begun regions) where
    -- records before the current ones, and those, with the begun one or without
    shown : (front all : List Record) → AreWithOrWithout (front ++ current) v.log.current.begun all → (all ≡ front ++ p.current) ⊎ (all ≡ (front ++ p.current) ++ change_of p.begun)
    shown front all are = with_begun (front ++ p.current) all v.log.current.begun p.begun turn.begun (subst (λ (rs : List Record). AreWithOrWithout (front ++ rs) v.log.current.begun all) (sym turn.current) are)

    at_home : records_in regions (next_generation v.log.generation) ≡ [] → (is_some v.log.other ≡ false → next_generation (generation (regions (next_generation v.log.generation % 2))) ≡ v.log.generation)
        → CountsAt regions (record { generation = v.log.generation; done = 0 }) p.current p.begun
    at_home none named_before = record { counts = shown [] (counted_records v.log.generation 0 regions) (counts.passed named_before); turns = inr none }

    -- while a region is away its records count behind those done
    module _ (a : SealedRegionView M) (is : IsAwayFrom device v a) (left : HoldsSealed device regions a) (sealed : p.sealed ≡ v.sealed) where
      records_left : records (regions (a.generation % 2)) ≡ p.sealed
      records_left = left.records_are ∙ is.records ∙ sym sealed

      in_region : records_in regions a.generation ≡ p.sealed
      in_region = named a.generation (regions (a.generation % 2)) left.names ∙ records_left

      at_sealed : (done : ℕ) → done < length p.sealed → CountsAt regions (record { generation = a.generation; done = done }) (drop done p.sealed ++ p.current) p.begun
      at_sealed done low = record {
        counts = shown (drop done p.sealed) (counted_records a.generation done regions) (subst (λ (rs : List Record). AreWithOrWithout (drop done rs ++ current) v.log.current.begun (counted_records a.generation done regions)) records_left (counts.sealed a.generation done is.before left.names));
        turns = inl (subst (λ (rs : List Record). drop done rs ≢ []) (sym in_region) (some_left done p.sealed low));
      }

      beside_is : regions (next_generation v.log.generation % 2) ≡ regions (a.generation % 2)
      beside_is = ap (λ (g : ℕ). regions (next_generation g % 2)) (sym is.before) ∙ ap regions (same_region a.generation)

      next_is_other : a.generation ≢ next_generation v.log.generation
      next_is_other same = after_next a.generation (ap next_generation is.before ∙ sym same)

      -- once all of them are done, as at home
      at_next : CountsAt regions (record { generation = v.log.generation; done = 0 }) p.current p.begun
      at_next = at_home
          (unnamed (next_generation v.log.generation) (regions (next_generation v.log.generation % 2)) (λ is_next. next_is_other (sym left.names ∙ ap generation (sym beside_is) ∙ is_next)))
          (λ gone. ap (λ (c : List ℕ). next_generation (generation c)) beside_is ∙ ap next_generation left.names ∙ is.before)

module _ {M : Type 0} (device : Ghosts M) (v : ClientView M) (regions : ℕ → List ℕ) (p : Client) (a : Account) (turn : HasTurn (turn_of device v.log) p) (sealed : p.sealed ≡ v.sealed) (marked : IsMarked a.mark p.past p.sealed p.other) where
  none_sealed : is_some v.log.other ≡ true → p.sealed ≡ []
  none_sealed here = marked.none (λ away. here_is_not_away v.log.other v.log.clean here (sym turn.other ∙ away))

  -- at its mark
  pub counts_at_mark : (away : Option (SealedRegionView M)) → IsSeated device v away → HoldsSeat device regions v away → a.mark ≡ p.past + done_of away
      → CountsAt regions (record { generation = first_generation v.log.generation away; done = done_of away }) (undigested_records a p) p.begun
  counts_at_mark None here holds digested =
      let none : drop (a.mark - p.past) p.sealed ≡ [] = ap (drop (a.mark - p.past)) (none_sealed here) ∙ drop-nil (a.mark - p.past) in
      subst (λ (rs : List Record). CountsAt regions (record { generation = v.log.generation; done = 0 }) (rs ++ p.current) p.begun) (sym none)
      (at_home device v regions p turn holds.counts (holds.beside here) (λ gone. absurd (false≢true (sym gone ∙ here))))
  counts_at_mark (Some r) away holds digested =
      let done : a.mark - p.past ≡ r.done = omega (arith, digested) in
      let low : r.done < length p.sealed = subst (λ (rs : List Record). r.done < length rs) (sym sealed) away.some in
      subst (λ (n : ℕ). CountsAt regions (record { generation = r.generation; done = r.done }) (drop n p.sealed ++ p.current) p.begun) (sym done)
      (at_sealed device v regions p turn holds.counts r away holds.away_is sealed r.done low)

  -- once its next records are digested
  pub counts_behind : (away : Option (SealedRegionView M)) (first rest : List Record) → IsSeated device v away → HoldsSeat device regions v away → a.mark ≡ p.past + done_of away
      → first ≢ [] → drop (a.mark - p.past) p.sealed ≡ first ++ rest
      → CountsAt regions (mark_after (first_generation v.log.generation away) (done_of away + length first) (length p.sealed)) (rest ++ p.current) p.begun
  counts_behind None first rest here holds digested some split =
      absurd (some (front_none first rest (sym split ∙ ap (drop (a.mark - p.past)) (none_sealed here) ∙ drop-nil (a.mark - p.past))))
  counts_behind (Some r) first rest away holds digested some split =
      let done : a.mark - p.past ≡ r.done = omega (arith, digested) in
      let low : r.done < length p.sealed = subst (λ (rs : List Record). r.done < length rs) (sym sealed) away.some in
      let undone : drop r.done p.sealed ≡ first ++ rest = ap (λ (n : ℕ). drop n p.sealed) (sym done) ∙ split in
      let were : length p.sealed - r.done ≡ length (first ++ rest) = sym (length-drop r.done p.sealed) ∙ ap length undone in
      let both = length-append first rest in
      let behind : drop (r.done + length first) p.sealed ≡ rest = drop_more r.done (length first) p.sealed (omega (arith, low)) ∙ ap (drop (length first)) undone ∙ drop-append_seam first rest in
      elim (eqb_tells (r.done + length first) (length p.sealed)) [
        | inl all ↦
            let end = all.1 in
            let none : rest ≡ [] = none_in rest (omega (arith, end, were, both, low)) in
            subst (λ (t : Bool). CountsAt regions (cond t (record { generation = next_generation r.generation; done = 0 }) (record { generation = r.generation; done = r.done + length first })) (rest ++ p.current) p.begun) (sym all.0)
            (subst (λ (g : ℕ). CountsAt regions (record { generation = g; done = 0 }) (rest ++ p.current) p.begun) (sym away.before)
            (subst (λ (rs : List Record). CountsAt regions (record { generation = v.log.generation; done = 0 }) (rs ++ p.current) p.begun) (sym none)
            (at_next device v regions p turn holds.counts r away holds.away_is sealed)))
        | inr part ↦
            let off = part.1 in
            subst (λ (t : Bool). CountsAt regions (cond t (record { generation = next_generation r.generation; done = 0 }) (record { generation = r.generation; done = r.done + length first })) (rest ++ p.current) p.begun) (sym part.0)
            (subst (λ (rs : List Record). CountsAt regions (record { generation = r.generation; done = r.done + length first }) (rs ++ p.current) p.begun) behind
            (at_sealed device v regions p turn holds.counts r away holds.away_is sealed (r.done + length first) (omega (arith, off, were, both, low))))
      ]
