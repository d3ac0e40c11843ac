-- The first record that touches an inode which another client's records do.
use Rattle.std.proofs.Common.{◌≡◌, inl, inr, ℕ, zero, suc, ◌+◌, ◌-◌, ◌<◌, ◌≤◌, ◌⊎◌, Bool, true, false, eqb, ◌||◌, List, [], ◌∷◌, ◌++◌, length, take, drop, Option, Some, None, refl, ap, sym, ◌∙◌, subst, arith}
use Rattle.std.specs.Prelude.{find}
use Rattle.std.proofs.lemmas.Bool.{cases_Bool, cond-true, cond-false, eq-eqb, both_ways, cases_lt, false≢true, false_from_ne_true, ne_eqb, not_from_false}
use Rattle.std.proofs.lemmas.Bool.Decides.{eqb_tells}
use Rattle.std.proofs.lemmas.List.{append_assoc, length-drop, take-append-drop, take-append-le, take_all}
use Rattle.log_survey.specs.Owners.{AreAdded, AreOwners, IsClear, TouchInodes, is_foreign, is_other, owner_among, touched_inodes}
use Rattle.log_survey.specs.declared.regions.LogRest.{LogRest}
use Rattle.graph_check.specs.file_graph.Graph.{is_among, touches}
use Rattle.graph_check.specs.log_record.declared.format.Record.{Record}
use Rattle.log_survey.proofs.OwnerLemmas.{clear_in_parts}
use Rattle.log_survey.proofs.TableLemmas.{find_hit, none_is_clear, written_is_touched}
use Rattle.log_survey.proofs.TouchLemmas.{part_touches}
use Rattle.log_survey.proofs.world_invariant_lemmas.Owners as owners
use Rattle.log_survey.specs.world_invariant.Logs.{is_written}
use Rattle.posix_calls.specs.Operations.{is_client}
use Rattle.area_recovery.specs.declared.error.RecoveryError.{RecoveryError}
use Rattle.area_recovery.specs.declared.error.RecoveryError.TheVariants.{BadLog, DeviceFault, Memory}
use Rattle.area_recovery.specs.declared.error.RecoveryError.TheVariants as errors
use Rattle.area_recovery.specs.Errors.{OnBadLog}
use Rattle.area_recovery.specs.FoundLogs.{IsFirstForeign, NamesForeign, first_part, second_part}
use Rattle.area_recovery.specs.Refusals.{IsFirstSharing, ShareNone}

-- ---- the first one in a list

found_there : (p : ℕ → Bool) (is : List ℕ) (x : ℕ) → find p is ≡ Some x → (is_among x is ≡ true) × (p x ≡ true)
found_there p [] x e = absurd cc
found_there p (j ∷ js) x e = elim (cases_Bool (p j)) [
  | inl t ↦
      let same : Some j ≡ Some x = sym (cond-true (p j) (Some j) (find p js) t) ∙ e in
      let is : j ≡ x = cc in
      (ap (λ b. b || is_among x js) (eq-eqb j x is), subst (λ k. p k ≡ true) is t)
  | inr f ↦
      let later = found_there p js x (sym (cond-false (p j) (Some j) (find p js) f) ∙ e) in
      (either_way (eqb j x) (is_among x js) later.0, later.1)
]
  where
    either_way : (a b : Bool) → b ≡ true → (a || b) ≡ true
    either_way true b e = refl
    either_way false b e = e

touched_append : (xs ys : List Record) → touched_inodes (xs ++ ys) ≡ touched_inodes xs ++ touched_inodes ys
touched_append [] ys = refl
touched_append (a ∷ xs) ys = ap (λ is. touches a.effects ++ is) (touched_append xs ys) ∙ sym (append_assoc (touches a.effects) (touched_inodes xs) (touched_inodes ys))

module _ (own : ℕ → Option ℕ) (client : ℕ) where
  -- records before which the inode that was found is not touched are clear
  before_is_clear : (rs : List Record) (k x : ℕ) → find (is_foreign own client) (touched_inodes rs) ≡ Some x → is_written x (take k rs) ≡ false → IsClear own client (take k rs)
  before_is_clear rs k x found off = of_first (find (is_foreign own client) (touched_inodes (take k rs))) refl
    where
      whole : touched_inodes rs ≡ touched_inodes (take k rs) ++ touched_inodes (drop k rs)
      whole = ap touched_inodes (sym (take-append-drop k rs)) ∙ touched_append (take k rs) (drop k rs)

      of_first : (o : Option ℕ) → find (is_foreign own client) (touched_inodes (take k rs)) ≡ o → IsClear own client (take k rs)
      of_first None e = none_is_clear own client (take k rs) e
      of_first (Some y) e =
          let hit : find (is_foreign own client) (touched_inodes rs) ≡ Some y = ap (find (is_foreign own client)) whole ∙ find_hit (is_foreign own client) (touched_inodes (take k rs)) (touched_inodes (drop k rs)) y e in
          let both : Some y ≡ Some x = sym hit ∙ found in
          let same : y ≡ x = cc in
          let there : is_written x (take k rs) ≡ true = subst (λ z. is_written z (take k rs) ≡ true) same (written_is_touched y (take k rs) ∙ (found_there (is_foreign own client) (touched_inodes (take k rs)) y e).0) in
          absurd (false≢true (sym off ∙ there))

  pub first_foreign : (rs : List Record) (k x : ℕ) → find (is_foreign own client) (touched_inodes rs) ≡ Some x → is_written x (take k rs) ≡ false → (is_written x rs ≡ true → is_written x (take (k + 1) rs) ≡ true) → IsFirstForeign own client rs k
  first_foreign rs k x found off there =
      let passes = found_there (is_foreign own client) (touched_inodes rs) x found in
      record {
        clear = before_is_clear rs k x found off;
        touches = λ clear. false≢true (sym (clear x (there (written_is_touched x rs ∙ passes.0))) ∙ passes.1);
      }

  -- it stands among them
  pub foreign_within : (rs : List Record) (k : ℕ) → IsFirstForeign own client rs k → k < length rs
  foreign_within rs k is = elim (cases_lt k (length rs)) [
    | inl low ↦ low
    | inr ge ↦ absurd (is.touches (subst (IsClear own client) (take_all k rs ge ∙ sym (take_all (k + 1) rs (omega (arith, ge)))) is.clear))
  ]

  -- the first one of some is that of those with others behind them
  pub foreign_in_front : (xs ys : List Record) (k : ℕ) → IsFirstForeign own client xs k → IsFirstForeign own client (xs ++ ys) k
  foreign_in_front xs ys k is =
      let low = foreign_within xs k is in
      record {
        clear = subst (IsClear own client) (sym (take-append-le k xs ys (omega (arith, low)))) is.clear;
        touches = λ clear. is.touches (subst (IsClear own client) (take-append-le (k + 1) xs ys (omega (arith, low))) clear);
      }

-- records behind clear ones
pub foreign_behind : (own part : ℕ → Option ℕ) (client : ℕ) (xs ys : List Record) (k : ℕ) → IsClear own client xs → AreAdded own part client xs → TouchInodes ys → IsFirstForeign part client ys k → IsFirstForeign own client (xs ++ ys) (length xs + k)
foreign_behind own part client xs ys k clear added inodes is = record {
  clear = subst (IsClear own client) (sym (taken xs ys k)) ((clear_in_parts own part client xs (take k ys) added (some k)).1 (clear, is.clear));
  touches = λ all. is.touches ((clear_in_parts own part client xs (take (k + 1) ys) added (some (k + 1))).0 (subst (IsClear own client) (ap (λ n. take n (xs ++ ys)) (omega arith) ∙ taken xs ys (k + 1)) all)).1;
}
  where
    taken : (xs ys : List Record) (n : ℕ) → take (length xs + n) (xs ++ ys) ≡ xs ++ take n ys
    taken [] ys n = ap (λ m. take m ys) (omega arith)
    taken (x ∷ xs) ys n = ap (λ m. take m (x ∷ (xs ++ ys))) (more (length xs) n) ∙ ap (λ zs. x ∷ zs) (taken xs ys n)
      where
        more : (a b : ℕ) → suc a + b ≡ suc (a + b)
        more a b = omega arith

    some : (n : ℕ) → TouchInodes (take n ys)
    some n = (part_touches (take n ys) (drop n ys) (subst TouchInodes (sym (take-append-drop n ys)) inodes)).0

-- ---- what a refusal names

-- a refusal for a device or memory names no record
pub none_named : (P : ℕ → ℕ → Type 0) (e : RecoveryError) → (e ≡ DeviceFault) ⊎ (e ≡ Memory) → OnBadLog e P
none_named P e (inl is) = subst (λ x. OnBadLog x P) (sym is) tt
none_named P e (inr is) = subst (λ x. OnBadLog x P) (sym is) tt

-- the parts of what is read are no longer than it
second_few : (n : ℕ) (even odd : List Record) (o : Option ℕ) → length even < n → length odd < n → length (second_part even odd o) < n
second_few n even odd None few few' = omega (arith, few)
second_few n even odd (Some zero) few few' = few
second_few n even odd (Some (suc r)) few few' = few'

first_few : (n : ℕ) (even odd : List Record) (o : Option LogRest) → length even < n → length odd < n → length (first_part even odd o) < n
first_few n even odd None few few' = omega (arith, few)
first_few n even odd (Some rest) few few' = (let long = length-drop rest.from (second_part even odd (Some rest.region)) in let low = second_few n even odd (Some rest.region) few few' in omega (arith, long, low))

module _ (own : ℕ → Option ℕ) (client : ℕ) (even odd : List Record) (rest : Option LogRest) (region : Option ℕ) (few : length even < 4294967296) (few_too : length odd < 4294967296) (e : RecoveryError) (k : ℕ) where
  abbrev xs : List Record
  xs = first_part even odd rest

  abbrev ys : List Record
  ys = second_part even odd region

  pub named_in_front : (0 + k < 18446744073709551616 → e ≡ BadLog client (0 + k)) → IsFirstForeign own client xs k → NamesForeign own client (xs ++ ys) e
  named_in_front is first =
      let low = foreign_within own client xs k first in
      let short = first_few 4294967296 even odd rest few few_too in
      let here : 0 + k ≡ k = omega arith in
      subst (NamesForeign own client (xs ++ ys)) (sym (is (omega (arith, low, short)) ∙ ap (BadLog client) here)) (refl, foreign_in_front own client xs ys k first)

  pub named_behind : (part : ℕ → Option ℕ) (n : ℕ) → n ≡ length xs → (n + k < 18446744073709551616 → e ≡ BadLog client (n + k)) → IsClear own client xs → AreAdded own part client xs → TouchInodes ys → IsFirstForeign part client ys k → NamesForeign own client (xs ++ ys) e
  named_behind part n long is clear added inodes first =
      let low = foreign_within part client ys k first in
      let short = first_few 4294967296 even odd rest few few_too in
      let short_too = second_few 4294967296 even odd region few few_too in
      subst (NamesForeign own client (xs ++ ys)) (sym (is (omega (arith, long, low, short, short_too)) ∙ ap (λ m. BadLog client (m + k)) long)) (refl, foreign_behind own part client xs ys k clear added inodes first)

-- ---- by the logs of the clients before

-- who stands in the table is one of the clients so far, and its records touch the inode
holder_writes : (logs : ℕ → List Record) (n i c : ℕ) → owner_among logs n i ≡ Some c → (1 ≤ c) × (c ≤ n) × (is_written i (logs c) ≡ true)
holder_writes logs zero i c e = absurd cc
holder_writes logs (suc n) i c e = elim (cases_Bool (is_written i (logs (suc n)))) [
  | inl t ↦
      let same : Some (suc n) ≡ Some c = sym (cond-true (is_written i (logs (suc n))) (Some (suc n)) (owner_among logs n i) t) ∙ e in
      let is : suc n ≡ c = cc in
      (omega arith, omega arith, subst (λ d. is_written i (logs d) ≡ true) is t)
  | inr f ↦
      let before = holder_writes logs n i c (sym (cond-false (is_written i (logs (suc n))) (Some (suc n)) (owner_among logs n i) f) ∙ e) in
      (before.0, omega (arith, before.1), before.2)
]

-- an inode that the records of one of them touch has a holder
writer_is_held : (logs : ℕ → List Record) (n i c : ℕ) → 1 ≤ c → c ≤ n → is_written i (logs c) ≡ true → (d : ℕ) × (owner_among logs n i ≡ Some d) × (d ≤ n)
writer_is_held logs zero i c one small there = absurd (omega arith)
writer_is_held logs (suc n) i c one small there = elim (cases_Bool (is_written i (logs (suc n)))) [
  | inl t ↦ (suc n, cond-true (is_written i (logs (suc n))) (Some (suc n)) (owner_among logs n i) t, omega arith)
  | inr f ↦ elim (eqb_tells c (suc n)) [
    | inl is ↦ absurd (both_ways (is_written i (logs (suc n))) f (subst (λ d. is_written i (logs d) ≡ true) is.1 there))
    | inr other ↦
        let off = other.1 in
        let before = writer_is_held logs n i c one (omega (arith, off, small)) there in
        (before.0, cond-false (is_written i (logs (suc n))) (Some (suc n)) (owner_among logs n i) f ∙ before.1, omega (arith, before.2))
  ]
]

module _ (logs : ℕ → List Record) (n : ℕ) (rs : List Record) where
  pub clear_shares_none : IsClear (owner_among logs n) (n + 1) rs → ShareNone logs (n + 1) rs
  clear_shares_none clear d i is_d low there = false_from_ne_true (is_written i (logs d)) (λ also.
      let held = writer_is_held logs n i d (owners.is_low d is_d) (omega (arith, low)) also in
      let other : is_other (n + 1) (Some held.0) ≡ true = not_from_false (eqb held.0 (n + 1)) (ne_eqb held.0 (n + 1) (λ is. (let high = held.2 in omega (arith, high, is)))) in
      both_ways (is_other (n + 1) (Some held.0)) (ap (is_other (n + 1)) (sym held.1) ∙ clear i there) other)

  pub none_shared_clear : n < 8 → ShareNone logs (n + 1) rs → IsClear (owner_among logs n) (n + 1) rs
  none_shared_clear high none i there = of_holder (owner_among logs n i) refl
    where
      of_holder : (o : Option ℕ) → owner_among logs n i ≡ o → is_other (n + 1) o ≡ false
      of_holder None e = refl
      of_holder (Some c) e =
          let holds = holder_writes logs n i c e in
          let low = holds.0 in
          let most = holds.1 in
          absurd (both_ways (is_written i (logs c)) (none c i (owners.client_is c low (omega (arith, most, high))) (omega (arith, most)) there) holds.2)

-- the owners so far decide as the logs do
pub own_clear : (logs : ℕ → List Record) (n : ℕ) (own : ℕ → Option ℕ) (client : ℕ) (rs : List Record) → AreOwners own logs n → TouchInodes rs → IsClear own client rs → IsClear (owner_among logs n) client rs
own_clear logs n own client rs owned inodes clear i there = ap (is_other client) (sym (owned i (inodes i there))) ∙ clear i there

among_clear : (logs : ℕ → List Record) (n : ℕ) (own : ℕ → Option ℕ) (client : ℕ) (rs : List Record) → AreOwners own logs n → TouchInodes rs → IsClear (owner_among logs n) client rs → IsClear own client rs
among_clear logs n own client rs owned inodes clear i there = ap (is_other client) (owned i (inodes i there)) ∙ clear i there

module _ (logs : ℕ → List Record) (n : ℕ) (own : ℕ → Option ℕ) (high : n < 8) (owned : AreOwners own logs n) (clear : (m : ℕ) → m < n → IsClear (owner_among logs m) (m + 1) (logs (m + 1))) (inodes : TouchInodes (logs (n + 1))) where
  some_inodes : (k : ℕ) → TouchInodes (take k (logs (n + 1)))
  some_inodes k = (part_touches (take k (logs (n + 1))) (drop k (logs (n + 1))) (subst TouchInodes (sym (take-append-drop k (logs (n + 1)))) inodes)).0

  before_clear : (d : ℕ) → is_client d ≡ true → d < n + 1 → ShareNone logs d (logs d)
  before_clear d is_d low =
      let one = owners.is_low d is_d in
      let same : d - 1 + 1 ≡ d = omega (arith, one) in
      subst (λ e. ShareNone logs e (logs e)) same (clear_shares_none logs (d - 1) (logs (d - 1 + 1)) (clear (d - 1) (omega (arith, one, low))))

  pub first_sharing : (place : ℕ) → IsFirstForeign own (n + 1) (logs (n + 1)) place → IsFirstSharing logs (n + 1) place
  first_sharing place is = record {
    client_is = owners.client_is (n + 1) (omega arith) (omega (arith, high));
    before = before_clear;
    clear = clear_shares_none logs n (take place (logs (n + 1))) (own_clear logs n own (n + 1) (take place (logs (n + 1))) owned (some_inodes place) is.clear);
    shares = λ none. is.touches (among_clear logs n own (n + 1) (take (place + 1) (logs (n + 1))) owned (some_inodes (place + 1)) (none_shared_clear logs n (take (place + 1) (logs (n + 1))) high none));
  }

  -- what a refusal names of the next client's records is so
  pub sharing_named : (e : RecoveryError) → NamesForeign own (n + 1) (logs (n + 1)) e → OnBadLog e (IsFirstSharing logs)
  sharing_named errors.DeviceFault is = tt
  sharing_named (errors.Damaged structure block) is = tt
  sharing_named errors.AreaSize is = tt
  sharing_named errors.RegionSize is = tt
  sharing_named (errors.BadLog client place) is = subst (λ d. IsFirstSharing logs d place) (sym is.0) (first_sharing place is.1)
  sharing_named errors.Memory is = tt
