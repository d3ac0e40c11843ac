-- A region is sealed, comes back and is wiped: the records that are not digested stay.
use Rattle.std.proofs.Common.{◌≡◌, ℕ, ◌+◌, ◌-◌, ◌≤◌, Bool, true, false, List, [], ◌++◌, length, drop, refl, ap, sym, ◌∙◌, subst, arith}
use Rattle.std.proofs.lemmas.Bool.{false≢true}
use Rattle.std.proofs.Math.ListN.{drop_of_length-le}
use Rattle.posix_calls.specs.Operations.{is_client}
use Rattle.call_effects.specs.log_record.declared.format.Record.{Record}
use Rattle.world_invariant.specs.Logs.{units_in}
use Rattle.world_invariant.specs.World.{Region, Wiped, Away, Back, Client, World, records_of, change_of, log_of, world_state}
use Rattle.world_invariant.specs.ClientParts.{IsMarked, StartsWiped, IsLogged, IsNumbered, IsSoundPart}
use Rattle.world_invariant.specs.Invariant.{IsCoherent}
use Rattle.world_invariant.specs.ClientSteps.{with_client}
use Rattle.world_invariant.specs.RegionSteps.{CanSeal, region_sealed, CanTakeBack, taken_back, is_wiped, other_wiped, current_wiped}
use Rattle.world_invariant.proofs.Records.{append_nil}
use Rattle.world_invariant.proofs.Begins.{tree_same}
use Rattle.world_invariant.proofs.Moved.{quiet, booked_same, before_less, after_less}

-- no record is digested of what was just sealed
none_yet : (mark past : ℕ) (current : List Record) → mark ≡ past → drop (mark - past) current ++ [] ≡ current
none_yet mark past current e = ap (λ n. drop n current ++ []) (zero_is mark past e) ∙ append_nil current
  where
    zero_is : (mark past : ℕ) → mark ≡ past → mark - past ≡ 0
    zero_is mark past e = omega (arith, e)

nothing_sealed : (n : ℕ) (sealed current : List Record) → length sealed ≤ n → drop n sealed ++ current ≡ current
nothing_sealed n sealed current low = ap (λ rs. rs ++ current) (drop_of_length-le sealed low)

-- The regions of a client are other ones, with the same undigested records.
module _ (w : World) (c : ℕ) (h : IsCoherent w) (is_c : is_client c ≡ true) (past : ℕ) (newly current : List Record) (other : Region) (ready : Bool)
    (log : drop ((w.kernel.accounts c).mark - past) newly ++ current ≡ log_of w c) (marked : IsMarked (w.kernel.accounts c).mark past newly other) (starts : StartsWiped ready current (w.clients c).begun) where
  abbrev p : Client
  p = record (w.clients c) { past = past; sealed = newly; current = current; other = other; ready = ready }

  s : IsSoundPart w.kernel.shared (w.kernel.accounts c) c (w.clients c)
  s = h.stands c is_c

  all : records_of (w.kernel.accounts c) p ≡ records_of (w.kernel.accounts c) (w.clients c)
  all = ap (λ rs. rs ++ change_of (w.clients c).begun) log

  pub regions_hold : IsCoherent (with_client w c p)
  regions_hold = quiet w c w.kernel.shared (w.kernel.accounts c) p h is_c refl log refl (booked_same w c p h is_c)
      (record {
        number = s.number;
        rests = s.rests;
        marked = marked;
        starts = starts;
        logged = subst (λ rs. IsLogged w.kernel.shared (w.clients c).writes rs) (sym all) s.logged;
        units = subst (λ rs. (w.clients c).spare + units_in rs ≤ (w.kernel.accounts c).units) (sym all) s.units;
        numbered = subst (λ rs. IsNumbered (w.kernel.accounts c).numbers (w.clients c).knows.granted rs) (sym log) s.numbered;
        leased = s.leased;
        pinned = s.pinned;
        pending = s.pending;
      })
      (before_less w c p h is_c (λ i e. e)) (after_less w c p h is_c (λ i e. e)) (h.agrees c is_c)

  pub regions_tree : world_state (with_client w c p) ≡ world_state w
  regions_tree = tree_same w c w.kernel.shared (w.kernel.accounts c) p log refl refl

-- ---- sealed

module _ (w : World) (c : ℕ) (h : IsCoherent w) (can : CanSeal w c) where
  marks : IsMarked (w.kernel.accounts c).mark (w.clients c).past (w.clients c).sealed (w.clients c).other
  marks = (h.stands c can.client).marked

  none_sealed : length (w.clients c).sealed ≡ 0
  none_sealed = ap length (marks.none can.back)

  at_past : (w.kernel.accounts c).mark ≡ (w.clients c).past
  at_past = let low : (w.clients c).past ≤ (w.kernel.accounts c).mark = marks.low in
      let high : (w.kernel.accounts c).mark ≤ (w.clients c).past + length (w.clients c).sealed = marks.high in
      let none : length (w.clients c).sealed ≡ 0 = none_sealed in
      omega (arith, low, high, none)

  log_sealed : drop ((w.kernel.accounts c).mark - (w.clients c).past) (w.clients c).current ++ [] ≡ log_of w c
  log_sealed = none_yet (w.kernel.accounts c).mark (w.clients c).past (w.clients c).current at_past
      ∙ sym (nothing_sealed ((w.kernel.accounts c).mark - (w.clients c).past) (w.clients c).sealed (w.clients c).current (let none : length (w.clients c).sealed ≡ 0 = none_sealed in omega (arith, none)))

  still_marked : IsMarked (w.kernel.accounts c).mark (w.clients c).past (w.clients c).current Away
  still_marked = record { low = marks.low; high = (let e : (w.kernel.accounts c).mark ≡ (w.clients c).past = at_past in omega (arith, e)); some = λ e. can.some; none = λ other. absurd (other refl) }

  abbrev other : Region
  other = (w.clients c).other

  nothing_yet : StartsWiped (is_wiped other) [] (w.clients c).begun
  nothing_yet = record { records = λ e. refl; idle = λ e. can.idle }

  pub sealed_holds : IsCoherent (region_sealed w c)
  sealed_holds = regions_hold w c h can.client (w.clients c).past (w.clients c).current [] Away (is_wiped other) log_sealed still_marked nothing_yet

  pub sealed_tree : world_state (region_sealed w c) ≡ world_state w
  sealed_tree = regions_tree w c h can.client (w.clients c).past (w.clients c).current [] Away (is_wiped other) log_sealed still_marked nothing_yet

-- ---- back

module _ (w : World) (c : ℕ) (h : IsCoherent w) (can : CanTakeBack w c) where
  abbrev mark : ℕ
  mark = (w.kernel.accounts c).mark

  starts : StartsWiped (w.clients c).ready (w.clients c).current (w.clients c).begun
  starts = (h.stands c can.client).starts

  log_back : drop (mark - mark) [] ++ (w.clients c).current ≡ log_of w c
  log_back = nothing_sealed (mark - mark) [] (w.clients c).current (omega arith)
      ∙ sym (nothing_sealed (mark - (w.clients c).past) (w.clients c).sealed (w.clients c).current (let e : mark ≡ (w.clients c).past + length (w.clients c).sealed = can.digested in omega (arith, e)))

  back_marked : IsMarked mark mark [] Back
  back_marked = record { low = omega arith; high = omega arith; some = λ e. absurd (cc); none = λ other. refl }

  pub taken_back_holds : IsCoherent (taken_back w c)
  taken_back_holds = regions_hold w c h can.client mark [] (w.clients c).current Back (w.clients c).ready log_back back_marked starts

  pub taken_back_tree : world_state (taken_back w c) ≡ world_state w
  taken_back_tree = regions_tree w c h can.client mark [] (w.clients c).current Back (w.clients c).ready log_back back_marked starts

-- ---- wiped

module _ (w : World) (c : ℕ) (h : IsCoherent w) (is_c : is_client c ≡ true) where
  abbrev cleaner : Client
  cleaner = w.clients c

  was_marked : IsMarked (w.kernel.accounts c).mark cleaner.past cleaner.sealed cleaner.other
  was_marked = (h.stands c is_c).marked

  started : StartsWiped cleaner.ready cleaner.current cleaner.begun
  started = (h.stands c is_c).starts

  abbrev gone : ℕ
  gone = (w.kernel.accounts c).mark - cleaner.past

  -- a region that is back has no records that are not digested
  none_back : cleaner.other ≡ Back → cleaner.sealed ≡ []
  none_back back = was_marked.none (λ e. let clash : Back ≡ Away = sym back ∙ e in cc)

  other_log : cleaner.other ≡ Back → drop gone [] ++ cleaner.current ≡ log_of w c
  other_log back = ap (λ rs. drop gone rs ++ cleaner.current) (sym (none_back back))

  beside : cleaner.other ≡ Back → IsMarked (w.kernel.accounts c).mark cleaner.past [] Wiped
  beside back = record { low = was_marked.low; high = subst (λ rs. (w.kernel.accounts c).mark ≤ cleaner.past + length rs) (none_back back) was_marked.high; some = λ e. absurd (cc); none = λ other. refl }

  -- nor has one that is not wiped yet
  current_log : cleaner.ready ≡ false → drop gone cleaner.sealed ++ [] ≡ log_of w c
  current_log stale = ap (λ rs. drop gone cleaner.sealed ++ rs) (sym (started.records stale))

  written : StartsWiped true [] cleaner.begun
  written = record { records = λ e. refl; idle = λ e. absurd (false≢true (sym e)) }

  pub other_wiped_holds : cleaner.other ≡ Back → IsCoherent (other_wiped w c)
  other_wiped_holds back = regions_hold w c h is_c cleaner.past [] cleaner.current Wiped cleaner.ready (other_log back) (beside back) started

  pub other_wiped_tree : cleaner.other ≡ Back → world_state (other_wiped w c) ≡ world_state w
  other_wiped_tree back = regions_tree w c h is_c cleaner.past [] cleaner.current Wiped cleaner.ready (other_log back) (beside back) started

  pub current_wiped_holds : cleaner.ready ≡ false → IsCoherent (current_wiped w c)
  current_wiped_holds stale = regions_hold w c h is_c cleaner.past cleaner.sealed [] cleaner.other true (current_log stale) was_marked written

  pub current_wiped_tree : cleaner.ready ≡ false → world_state (current_wiped w c) ≡ world_state w
  current_wiped_tree stale = regions_tree w c h is_c cleaner.past cleaner.sealed [] cleaner.other true (current_log stale) was_marked written
