-- A digest of a client's next records keeps what is said of its part.
use Rattle.std.proofs.Common.{◌≡◌, inl, inr, ℕ, ◌+◌, ◌-◌, ◌≤◌, ◌||◌, Bool, true, false, List, ◌++◌, length, take, drop, refl, ap, sym, ◌∙◌, subst, arith, append_assoc}
use Rattle.std.specs.Prelude.{◌&&◌, not}
use Rattle.std.proofs.lemmas.Bool.{false≢true}
use Rattle.std.proofs.lemmas.List.{take-append-drop, length-append, length-drop, length-take-le}
use Rattle.std.proofs.Math.Seq.{drop-append-add, drop-append_seam}
use Rattle.call_effects.specs.file_graph.Graph.{Graph}
use Rattle.call_effects.specs.log_record.declared.format.Record.{Record}
use Rattle.world_invariant.specs.Logs.{after_records, is_written, is_made_in, IsMadeOnce, units_in, IsPaid, ArePaid, Keeps, NamesNone, NameNone, KeepLimits}
use Rattle.world_invariant.specs.Limits.{IsWithin}
use Rattle.world_invariant.specs.World.{Client, Account, undigested_records, records_of, change_of}
use Rattle.world_invariant.specs.ClientParts.{IsSoundPart}
use Rattle.world_invariant.specs.Machine.{account_after}
use Rattle.world_invariant.proofs.Records.{either, both, rest_written, units_append}
use Rattle.world_invariant.proofs.Made.{front_unmade, rest_made, rest_unmade, once_rest, once_apart, made_append}
use Rattle.world_invariant.proofs.Along.{along_rest}

-- what is left after more is passed over
pub drop_more : {A : Type 0} (m n : ℕ) (xs : List A) → m ≤ length xs → drop (m + n) xs ≡ drop n (drop m xs)
drop_more m n xs low =
    ap (λ ys. drop (m + n) ys) (sym (take-append-drop m xs))
    ∙ ap (λ k. drop (k + n) (take m xs ++ drop m xs)) (sym (length-take-le m xs low))
    ∙ drop-append-add (take m xs) (drop m xs) n

-- a number that stays in the book is one that no record made
pub both_of : (a b : Bool) → (a && not b) ≡ true → (a ≡ true) × (b ≡ false)
both_of true false e = (refl, refl)
both_of true true e = absurd (false≢true e)
both_of false b e = absurd (false≢true e)

module _ (g : Graph) (a : Account) (c : ℕ) (p : Client) (first rest : List Record) (s : IsSoundPart g a c p) (split : drop (a.mark - p.past) p.sealed ≡ first ++ rest) where
  abbrev after : Account
  after = account_after a first

  abbrev shared : Graph
  shared = after_records g first

  abbrev later : List Record
  later = rest ++ p.current

  lengths : length p.sealed ≡ (a.mark - p.past) + (length first + length rest)
  lengths =
      let low : p.past ≤ a.mark = s.marked.low in
      let high : a.mark ≤ p.past + length p.sealed = s.marked.high in
      let dropped : length (drop (a.mark - p.past) p.sealed) ≡ length p.sealed - (a.mark - p.past) = length-drop (a.mark - p.past) p.sealed in
      let parts : length (drop (a.mark - p.past) p.sealed) ≡ length first + length rest = ap length split ∙ length-append first rest in
      omega (arith, low, high, dropped, parts)

  pub log_was : undigested_records a p ≡ first ++ later
  log_was = ap (λ rs. rs ++ p.current) split ∙ append_assoc first rest p.current

  dropped_now : drop ((a.mark + length first) - p.past) p.sealed ≡ rest
  dropped_now =
      ap (λ n. drop n p.sealed) (moved_on a.mark p.past (length first) s.marked.low)
      ∙ drop_more (a.mark - p.past) (length first) p.sealed (let l : length p.sealed ≡ (a.mark - p.past) + (length first + length rest) = lengths in omega (arith, l))
      ∙ ap (drop (length first)) split
      ∙ drop-append_seam first rest
    where
      moved_on : (m k n : ℕ) → k ≤ m → (m + n) - k ≡ (m - k) + n
      moved_on m k n low = omega (arith, low)

  pub log_is : undigested_records after p ≡ later
  log_is = ap (λ rs. rs ++ p.current) dropped_now

  pub all_was : records_of a p ≡ first ++ (later ++ change_of p.begun)
  all_was = ap (λ rs. rs ++ change_of p.begun) log_was ∙ append_assoc first later (change_of p.begun)

  all_is : records_of after p ≡ later ++ change_of p.begun
  all_is = ap (λ rs. rs ++ change_of p.begun) log_is

  pub paid_all : ArePaid g (first ++ (later ++ change_of p.begun))
  paid_all = subst (λ rs. ArePaid g rs) all_was s.logged.paid

  pub limits_all : KeepLimits g (first ++ (later ++ change_of p.begun))
  limits_all = subst (λ rs. KeepLimits g rs) all_was s.logged.limits

  pub units_were : p.spare + (units_in first + units_in (later ++ change_of p.begun)) ≤ a.units
  units_were = subst (λ n. p.spare + n ≤ a.units) (ap units_in all_was ∙ units_append first (later ++ change_of p.begun)) s.units

  to_still : (i : ℕ) → a.numbers i ≡ true → is_made_in i first ≡ false → after.numbers i ≡ true
  to_still i e off = ap (λ x. x && not (is_made_in i first)) e ∙ ap not off

  pub made_first : (i : ℕ) → is_made_in i first ≡ true → a.numbers i ≡ true
  made_first i e = s.numbered.made i (ap (is_made_in i) log_was ∙ made_append i first later ∙ ap (λ b. b || is_made_in i later) e)

  once_now : (i : ℕ) → IsMadeOnce i (first ++ later)
  once_now i = subst (λ rs. IsMadeOnce i rs) log_was (s.numbered.once i)

  not_first : (i : ℕ) → is_made_in i later ≡ true → is_made_in i first ≡ false
  not_first i e = elim (either (is_made_in i first)) [
    | inl there ↦ both (is_made_in i later) e (once_apart i first later (once_now i) there)
    | inr clean ↦ clean
  ]

  pub digested_stands : IsSoundPart shared after c p
  digested_stands = record {
    number = s.number;
    rests = s.rests;
    marked = record { low = (let low : p.past ≤ a.mark = s.marked.low in omega (arith, low)); high = (let low : p.past ≤ a.mark = s.marked.low in let l : length p.sealed ≡ (a.mark - p.past) + (length first + length rest) = lengths in omega (arith, low, l)); some = s.marked.some; none = s.marked.none };
    starts = s.starts;
    logged = record {
      leased = λ i e. s.logged.leased i (ap (is_written i) all_was ∙ rest_written i first (later ++ change_of p.begun) (ap (is_written i) (sym all_is) ∙ e));
      paid = subst (λ rs. ArePaid shared rs) (sym all_is) (along_rest IsPaid first (later ++ change_of p.begun) g paid_all);
      unnamed = subst (λ rs. NameNone shared rs) (sym all_is) (along_rest NamesNone first (later ++ change_of p.begun) g (subst (λ rs. NameNone g rs) all_was s.logged.unnamed));
      limits = subst (λ rs. KeepLimits shared rs) (sym all_is) (along_rest (Keeps IsWithin) first (later ++ change_of p.begun) g limits_all);
    };
    units = (let were : p.spare + (units_in first + units_in (later ++ change_of p.begun)) ≤ a.units = units_were in let now : units_in (records_of after p) ≡ units_in (later ++ change_of p.begun) = ap units_in all_is in omega (arith, were, now));
    numbered = record {
      made = λ i e. let there : is_made_in i later ≡ true = ap (is_made_in i) (sym log_is) ∙ e in to_still i (s.numbered.made i (ap (is_made_in i) log_was ∙ rest_made i first later there)) (not_first i there);
      once = λ i. subst (λ rs. IsMadeOnce i rs) (sym log_is) (once_rest i first later (once_now i));
      granted = λ i e. to_still i (s.numbered.granted i e) (front_unmade i first later (ap (is_made_in i) (sym log_was) ∙ s.numbered.unused i e));
      unused = λ i e. ap (is_made_in i) log_is ∙ rest_unmade i first later (ap (is_made_in i) (sym log_was) ∙ s.numbered.unused i e);
    };
    leased = s.leased;
    pinned = s.pinned;
    pending = s.pending;
  }
