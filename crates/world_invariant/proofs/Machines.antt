-- Each entry of the kernel keeps its book, what is sealed, and what is said of clients' parts.
use Rattle.std.proofs.Common.{◌≡◌, inl, inr, ℕ, ◌+◌, ◌-◌, ◌<◌, ◌≤◌, ◌||◌, true, false, List, ◌++◌, length, drop, refl, None, ap, sym, ◌∙◌, subst, arith}
use Rattle.std.specs.Prelude.{◌&&◌, not}
use Rattle.std.proofs.lemmas.Bool.{false≢true}
use Rattle.std.proofs.lemmas.Bool.Decides.{eqb_tells}
use Rattle.std.proofs.lemmas.List.{length-append, length-drop}
use Rattle.std.proofs.Math.Seq.{drop-append_seam}
use Rattle.posix_calls.specs.Tree.{sum_up_to}
use Rattle.posix_calls.specs.Operations.{is_client}
use Rattle.posix_calls.proofs.Sums.{same_if, there_if}
use Rattle.call_effects.specs.file_graph.Graph.{Graph, set_node}
use Rattle.call_effects.specs.file_graph.Units.{charge}
use Rattle.call_effects.specs.log_record.declared.format.Record.{Record}
use Rattle.world_invariant.specs.Limits.{IsWithin}
use Rattle.world_invariant.specs.Logs.{after_records, is_written, is_made_in, IsMadeOnce, units_in, IsPaid, Along, Keeps, NamesNone}
use Rattle.world_invariant.specs.World.{Account, Client, Kernel, undigested_records, records_of, change_of, at}
use Rattle.world_invariant.specs.ClientParts.{IsLogged, IsSoundPart}
use Rattle.world_invariant.specs.FormatWorld.{idle_account}
use Rattle.world_invariant.specs.LeaseSteps.{also, without}
use Rattle.world_invariant.specs.BookSteps.{HasRoom, IsUnbooked}
use Rattle.world_invariant.specs.KernelSteps.{CanReclaim}
use Rattle.world_invariant.specs.Machine.{Machine, IsRunning, Sealed, sealed_of, undigested_sealed, StandsSealed, with_account, CanAccept, accept, CanDigestNext, account_after, digest, book_units, unbook_units, book_number, unbook_number, book_pin, unbook_pin, bury, reclaim}
use Rattle.world_invariant.proofs.Records.{either, both, records_stay, front_written, rest_written, units_append}
use Rattle.world_invariant.proofs.Made.{records_none, rest_made, once_rest, once_front, once_apart, made_append}
use Rattle.world_invariant.proofs.Along.{along_rest, along_front}
use Rattle.world_invariant.proofs.Paid.{charge_records}
use Rattle.world_invariant.proofs.Keeping.{through}
use Rattle.world_invariant.proofs.Kernels.{each, units_moved, booked_moved}
use Rattle.world_invariant.proofs.Books.{of_also, of_without}
use Rattle.world_invariant.proofs.DigestedParts.{drop_more, both_of}
use Rattle.world_invariant.proofs.Reclaims.{charge_less}

-- ---- what is sealed

-- a client's sealed region, as a part of its own
pub sealed_stands : (g : Graph) (a : Account) (c : ℕ) (p : Client) → IsSoundPart g a c p → StandsSealed g a (sealed_of p)
sealed_stands g a c p s =
    let units : units_in ((drop (a.mark - p.past) p.sealed ++ p.current) ++ change_of p.begun) ≡ units_in (drop (a.mark - p.past) p.sealed ++ p.current) + units_in (change_of p.begun) = units_append (drop (a.mark - p.past) p.sealed ++ p.current) (change_of p.begun) in
    let parts : units_in (drop (a.mark - p.past) p.sealed ++ p.current) ≡ units_in (drop (a.mark - p.past) p.sealed) + units_in p.current = units_append (drop (a.mark - p.past) p.sealed) p.current in
    let enough : p.spare + units_in ((drop (a.mark - p.past) p.sealed ++ p.current) ++ change_of p.begun) ≤ a.units = s.units in
    record {
      low = s.marked.low;
      high = s.marked.high;
      logged = record {
        leased = λ i e. s.logged.leased i (front_written i (undigested_records a p) (change_of p.begun) (front_written i (drop (a.mark - p.past) p.sealed) p.current e));
        paid = front IsPaid s.logged.paid;
        unnamed = front NamesNone s.logged.unnamed;
        limits = front (Keeps IsWithin) s.logged.limits;
      };
      units = omega (arith, units, parts, enough);
      made = λ i e. s.numbered.made i (made_append i (drop (a.mark - p.past) p.sealed) p.current ∙ ap (λ b. b || is_made_in i p.current) e);
      once = λ i. once_front i (drop (a.mark - p.past) p.sealed) p.current (s.numbered.once i);
    }
  where
    front : (IsSo : Graph → Record → Type 0) → Along IsSo g (records_of a p) → Along IsSo g (drop (a.mark - p.past) p.sealed)
    front IsSo so = along_front IsSo (drop (a.mark - p.past) p.sealed) p.current g (along_front IsSo (undigested_records a p) (change_of p.begun) g so)

-- ---- the book

module _ (m : Machine) (r : IsRunning m) (c : ℕ) (is_c : is_client c ≡ true) where
  abbrev k : Kernel
  k = m.kernel

  abbrev a : Account
  a = k.accounts c

  -- another account with no more numbers, and the mark where it was
  account_runs : (x : Account) → ((i : ℕ) → x.numbers i ≡ true → a.numbers i ≡ true) → x.mark ≡ a.mark → charge k.shared + sum_up_to 8 (λ d. (at k.accounts c x d).units) ≤ k.capacity → IsRunning (with_account m c x)
  account_runs x fewer mark fits = record {
    booked = booked_moved k c k.shared x r.booked is_c (λ i e. r.booked.free c i is_c (fewer i e)) (λ d i is_d other e. r.booked.free d i is_d e) (λ i e. r.booked.range c i is_c (fewer i e)) (λ d i is_d other e. r.booked.alone c d i is_c is_d other (fewer i e)) r.booked.limits fits;
    accepted = still_accepted x mark;
  }
    where
      still_accepted : (x : Account) → x.mark ≡ a.mark → (d : ℕ) → is_client d ≡ true → (at k.accounts c x d).mark ≤ m.accepted d
      still_accepted x mark d is_d = each k.accounts c x (λ d (y : Account). is_client d ≡ true → y.mark ≤ m.accepted d) (λ is. subst (λ n. n ≤ m.accepted c) (sym mark) (r.accepted c is)) (λ d other is. r.accepted d is) d is_d

  units_fit : (x : Account) → x.units ≤ a.units → charge k.shared + sum_up_to 8 (λ d. (at k.accounts c x d).units) ≤ k.capacity
  units_fit x few =
      let sums : sum_up_to 8 (λ d. (at k.accounts c x d).units) + a.units ≡ sum_up_to 8 (λ d. (k.accounts d).units) + x.units = units_moved k c k.shared x r.booked is_c in
      let fits : charge k.shared + sum_up_to 8 (λ d. (k.accounts d).units) ≤ k.capacity = r.booked.fits in
      omega (arith, sums, fits, few)

  pub units_booked_run : (units : ℕ) → HasRoom k units → IsRunning (book_units m c units)
  units_booked_run units room =
      let sums : sum_up_to 8 (λ d. (at k.accounts c (record a { units = a.units + units }) d).units) + a.units ≡ sum_up_to 8 (λ d. (k.accounts d).units) + (a.units + units) = units_moved k c k.shared (record a { units = a.units + units }) r.booked is_c in
      let enough : charge k.shared + (sum_up_to 8 (λ d. (k.accounts d).units) + units) ≤ k.capacity = room in
      account_runs (record a { units = a.units + units }) (λ i e. e) refl (omega (arith, sums, enough))

  pub units_unbooked_run : (units : ℕ) → IsRunning (unbook_units m c units)
  units_unbooked_run units = account_runs (record a { units = a.units - units }) (λ i e. e) refl (units_fit (record a { units = a.units - units }) (omega arith))

  pub number_booked_runs : (i : ℕ) → IsUnbooked k i → IsRunning (book_number m c i)
  number_booked_runs i free = record {
    booked = booked_moved k c k.shared (record a { numbers = also a.numbers i }) r.booked is_c
        (λ j e. of_also (λ x. k.shared x ≡ None) a.numbers i j e free.none (λ has. r.booked.free c j is_c has))
        (λ d j is_d other e. r.booked.free d j is_d e)
        (λ j e. of_also (λ x. (1 < x) × (x ≤ 1024)) a.numbers i j e (free.low, free.high) (λ has. r.booked.range c j is_c has))
        (λ d j is_d other e. of_also (λ x. (k.accounts d).numbers x ≡ false) a.numbers i j e (free.nobody d is_d) (λ has. r.booked.alone c d j is_c is_d other has))
        r.booked.limits (units_fit (record a { numbers = also a.numbers i }) (omega arith));
    accepted = λ d is_d. each k.accounts c (record a { numbers = also a.numbers i }) (λ d (y : Account). is_client d ≡ true → y.mark ≤ m.accepted d) (λ is. r.accepted c is) (λ d other is. r.accepted d is) d is_d;
  }

  pub number_unbooked_runs : (i : ℕ) → IsRunning (unbook_number m c i)
  number_unbooked_runs i = account_runs (record a { numbers = without a.numbers i }) (λ j e. (of_without a.numbers i j e).1) refl (units_fit (record a { numbers = without a.numbers i }) (omega arith))

  pub pin_booked_runs : (i : ℕ) → IsRunning (book_pin m c i)
  pin_booked_runs i = account_runs (record a { pins = also a.pins i }) (λ j e. e) refl (units_fit (record a { pins = also a.pins i }) (omega arith))

  pub pin_unbooked_runs : (i : ℕ) → IsRunning (unbook_pin m c i)
  pin_unbooked_runs i = account_runs (record a { pins = without a.pins i }) (λ j e. e) refl (units_fit (record a { pins = without a.pins i }) (omega arith))

  pub buried_runs : IsRunning (bury m c)
  buried_runs = account_runs (idle_account a.mark) (λ i e. absurd (false≢true e)) refl (units_fit (idle_account a.mark) (omega arith))

  pub accepted_runs : (s : Sealed) → CanAccept m c s → IsRunning (accept m c s)
  accepted_runs s can = record {
    booked = r.booked;
    accepted = λ d is_d. each m.accepted c (s.past + length s.records) (λ d n. is_client d ≡ true → (k.accounts d).mark ≤ n) (λ is. (let before : a.mark ≡ s.past = can.before in omega (arith, before))) (λ d other is. r.accepted d is) d is_d;
  }

pub reclaimed_runs : (m : Machine) (i : ℕ) → IsRunning m → CanReclaim m.kernel i → IsRunning (reclaim m i)
reclaimed_runs m i r can =
    let gone : set_node m.kernel.shared i None i ≡ None = there_if i None (m.kernel.shared i) in
    let less : charge (set_node m.kernel.shared i None) ≤ charge m.kernel.shared = charge_less i m.kernel.shared (set_node m.kernel.shared i None) gone (λ j off. same_if j i None (m.kernel.shared j) off) in
    let fits : charge m.kernel.shared + sum_up_to 8 (λ d. (m.kernel.accounts d).units) ≤ m.kernel.capacity = r.booked.fits in
    record {
      booked = record {
        free = λ c j is_c e. elim (eqb_tells j i) [ inl same ↦ ap (set_node m.kernel.shared i None) same.1 ∙ gone | inr off ↦ same_if j i None (m.kernel.shared j) off.1 ∙ r.booked.free c j is_c e ];
        range = r.booked.range;
        alone = r.booked.alone;
        limits = λ j. elim (eqb_tells j i) [ inl same ↦ subst (IsWithin j) (sym (ap (set_node m.kernel.shared i None) same.1 ∙ gone)) tt | inr off ↦ subst (IsWithin j) (sym (same_if j i None (m.kernel.shared j) off.1)) (r.booked.limits j) ];
        fits = omega (arith, less, fits);
      };
      accepted = r.accepted;
    }

-- ---- a digest

module _ (m : Machine) (r : IsRunning m) (c : ℕ) (s : Sealed) (first rest : List Record) (t : StandsSealed m.kernel.shared (m.kernel.accounts c) s) (can : CanDigestNext m c s first rest) where
  abbrev x : Account
  x = m.kernel.accounts c

  abbrev after : Account
  after = account_after x first

  abbrev shared : Graph
  shared = after_records m.kernel.shared first

  logged_all : IsLogged m.kernel.shared s.writes (first ++ rest)
  logged_all = subst (λ rs. IsLogged m.kernel.shared s.writes rs) can.split t.logged

  units_all : units_in first + units_in rest ≤ x.units
  units_all = subst (λ n. n ≤ x.units) (ap units_in can.split ∙ units_append first rest) t.units

  lengths : length s.records ≡ (x.mark - s.past) + (length first + length rest)
  lengths =
      let low : s.past ≤ x.mark = t.low in
      let high : x.mark ≤ s.past + length s.records = t.high in
      let dropped : length (drop (x.mark - s.past) s.records) ≡ length s.records - (x.mark - s.past) = length-drop (x.mark - s.past) s.records in
      let parts : length (drop (x.mark - s.past) s.records) ≡ length first + length rest = ap length can.split ∙ length-append first rest in
      omega (arith, low, high, dropped, parts)

  pub left_now : undigested_sealed after s ≡ rest
  left_now =
      ap (λ n. drop n s.records) (moved_on x.mark s.past (length first) t.low)
      ∙ drop_more (x.mark - s.past) (length first) s.records (let l : length s.records ≡ (x.mark - s.past) + (length first + length rest) = lengths in omega (arith, l))
      ∙ ap (drop (length first)) can.split
      ∙ drop-append_seam first rest
    where
      moved_on : (m k n : ℕ) → k ≤ m → (m + n) - k ≡ (m - k) + n
      moved_on m k n low = omega (arith, low)

  still : (i : ℕ) → after.numbers i ≡ true → (x.numbers i ≡ true) × (is_made_in i first ≡ false)
  still i e = both_of (x.numbers i) (is_made_in i first) e

  made_first : (i : ℕ) → is_made_in i first ≡ true → x.numbers i ≡ true
  made_first i e = t.made i (ap (is_made_in i) can.split ∙ made_append i first rest ∙ ap (λ b. b || is_made_in i rest) e)

  once_now : (i : ℕ) → IsMadeOnce i (first ++ rest)
  once_now i = subst (λ rs. IsMadeOnce i rs) can.split (t.once i)

  pub digested_runs : IsRunning (digest m c first)
  digested_runs =
      let sums : sum_up_to 8 (λ d. (at m.kernel.accounts c after d).units) + x.units ≡ sum_up_to 8 (λ d. (m.kernel.accounts d).units) + (x.units - units_in first) = units_moved m.kernel c shared after r.booked can.client in
      let before : charge m.kernel.shared + sum_up_to 8 (λ d. (m.kernel.accounts d).units) ≤ m.kernel.capacity = r.booked.fits in
      let risen : charge shared ≤ charge m.kernel.shared + units_in first = charge_records first m.kernel.shared (along_front IsPaid first rest m.kernel.shared logged_all.paid) in
      let were : units_in first + units_in rest ≤ x.units = units_all in
      record {
        booked = booked_moved m.kernel c shared after r.booked can.client
            (λ i e. records_none m.kernel.shared first i (r.booked.free c i can.client (still i e).0) (still i e).1)
            (λ d i is_d other e. records_none m.kernel.shared first i (r.booked.free d i is_d e) (elim (either (is_made_in i first)) [
              | inl there ↦ both ((m.kernel.accounts d).numbers i) e (r.booked.alone c d i can.client is_d other (made_first i there))
              | inr clean ↦ clean
            ]))
            (λ i e. r.booked.range c i can.client (still i e).0)
            (λ d i is_d other e. r.booked.alone c d i can.client is_d other (still i e).0)
            (λ i. through IsWithin first m.kernel.shared i (along_front (Keeps IsWithin) first rest m.kernel.shared logged_all.limits) (r.booked.limits i))
            (omega (arith, sums, before, risen, were));
        accepted = λ d is_d. each m.kernel.accounts c after (λ d (y : Account). is_client d ≡ true → y.mark ≤ m.accepted d) (λ is. can.accepted) (λ d other is. r.accepted d is) d is_d;
      }

  pub digested_sealed : StandsSealed shared after s
  digested_sealed = record {
    low = (let low : s.past ≤ x.mark = t.low in omega (arith, low));
    high = (let low : s.past ≤ x.mark = t.low in let l : length s.records ≡ (x.mark - s.past) + (length first + length rest) = lengths in omega (arith, low, l));
    logged = subst (λ rs. IsLogged shared s.writes rs) (sym left_now) (record {
      leased = λ i e. logged_all.leased i (rest_written i first rest e);
      paid = along_rest IsPaid first rest m.kernel.shared logged_all.paid;
      unnamed = along_rest NamesNone first rest m.kernel.shared logged_all.unnamed;
      limits = along_rest (Keeps IsWithin) first rest m.kernel.shared logged_all.limits;
    });
    units = (let now : units_in (undigested_sealed after s) ≡ units_in rest = ap units_in left_now in let were : units_in first + units_in rest ≤ x.units = units_all in omega (arith, now, were));
    made = λ i e.
        let there : is_made_in i rest ≡ true = ap (is_made_in i) (sym left_now) ∙ e in
        let clean : is_made_in i first ≡ false = elim (either (is_made_in i first)) [ inl has ↦ both (is_made_in i rest) there (once_apart i first rest (once_now i) has) | inr off ↦ off ] in
        ap (λ a. a && not (is_made_in i first)) (t.made i (ap (is_made_in i) can.split ∙ rest_made i first rest there)) ∙ ap not clean;
    once = λ i. subst (λ rs. IsMadeOnce i rs) (sym left_now) (once_rest i first rest (once_now i));
  }

  -- who writes nothing of it finds what it found
  pub digested_beside : (rs : List Record) → ((i : ℕ) → is_written i rs ≡ true → s.writes i ≡ false) → (i : ℕ) → is_written i rs ≡ true → m.kernel.shared i ≡ shared i
  digested_beside rs apart i e = sym (records_stay m.kernel.shared first i (elim (either (is_written i first)) [
    | inl there ↦ both (s.writes i) (logged_all.leased i (front_written i first rest there)) (apart i e)
    | inr off ↦ off
  ]))
