-- A table that is filled client by client, beside the logs of all clients.
use Rattle.std.proofs.Common.{◌≡◌, inl, inr, ◌↔◌, ℕ, zero, suc, ◌+◌, ◌<◌, ◌≤◌, true, false, eqb, leb, cond, ◌||◌, List, ◌++◌, Option, Some, None, refl, sym, ap, subst, ◌∙◌, arith, add-one}
use Rattle.std.proofs.lemmas.Bool.{cases_Bool, cases_eq, cases_order, cond-true, cond-false, ne_eqb, eq-eqb, and_parts, and_from, leb-true, le-leb, not_from_true, not_from_false, false_from_ne_true, both_ways}
use Rattle.posix_calls.specs.Operations.{is_client}
use Rattle.posix_calls.specs.declared.limits.TheConstants.{MAX_CLIENTS}
use Rattle.update_log.specs.log_record.declared.format.Record.{Record}
use Rattle.world_invariant.specs.Logs.{is_written, LogsAreApart}
use Rattle.world_invariant.proofs.Records.{written_append, front_written, rest_written}
use Rattle.log_survey.proofs.TableLemmas.{one_or_other}
use Rattle.log_survey.specs.Owners.{AreAdded, AreOwners, IsClear, TouchInodes, owner_after, is_foreign, is_other, owner_among}

-- ---- in parts

pub added_in_parts : (own part whole : ℕ → Option ℕ) (client : ℕ) (first second : List Record) → AreAdded own part client first → AreAdded part whole client second
    → AreAdded own whole client (first ++ second)
added_in_parts own part whole client first second one two i is =
    two i is ∙ ap (λ o. cond (is_written i second) (Some client) o) (one i is)
    ∙ sym (one_or_other (is_written i first) (is_written i second) (Some client) (own i)) ∙ ap (λ b. cond b (Some client) (own i)) (sym (written_append i first second))

-- whether what an inode became by first records is another's
became_foreign : (own : ℕ → Option ℕ) (client : ℕ) (rs : List Record) (i : ℕ) → is_foreign own client i ≡ false → is_foreign (owner_after own client rs) client i ≡ false
became_foreign own client rs i clear = elim (cases_Bool (is_written i rs)) [
  | inl t ↦ ap (is_other client) (cond-true (is_written i rs) (Some client) (own i) t) ∙ not_from_true (eqb client client) (eq-eqb client client refl)
  | inr f ↦ ap (is_other client) (cond-false (is_written i rs) (Some client) (own i) f) ∙ clear
]

pub clear_in_parts : (own part : ℕ → Option ℕ) (client : ℕ) (first second : List Record) → AreAdded own part client first → TouchInodes second
    → (IsClear own client (first ++ second) ↔ (IsClear own client first × IsClear part client second))
clear_in_parts own part client first second one inodes = (split, join)
  where
    split : IsClear own client (first ++ second) → IsClear own client first × IsClear part client second
    split all = (
      (λ i there. all i (front_written i first second there)),
      (λ i there. ap (is_other client) (one i (inodes i there)) ∙ became_foreign own client first i (all i (rest_written i first second there))),
    )

    join : IsClear own client first × IsClear part client second → IsClear own client (first ++ second)
    join (here, behind) i there = elim (cases_Bool (is_written i first)) [
      | inl t ↦ here i t
      | inr f ↦
          let later : is_written i second ≡ true = ap (λ b. b || is_written i second) (sym f) ∙ sym (written_append i first second) ∙ there in
          ap (is_other client) (sym (one i (inodes i later) ∙ cond-false (is_written i first) (Some client) (own i) f)) ∙ behind i later
    ]

-- ---- client by client

pub none_own : (logs : ℕ → List Record) (own : ℕ → Option ℕ) → ((i : ℕ) → own i ≡ None) → AreOwners own logs 0
none_own logs own none i is = none i

next_owner : (logs : ℕ → List Record) (n i : ℕ) → owner_among logs (n + 1) i ≡ owner_after (owner_among logs n) (n + 1) (logs (n + 1)) i
next_owner logs n i = rw (add-one) refl

pub more_own : (logs : ℕ → List Record) (n : ℕ) (own more : ℕ → Option ℕ) → AreOwners own logs n → AreAdded own more (n + 1) (logs (n + 1)) → AreOwners more logs (n + 1)
more_own logs n own more owned add i is = add i is ∙ ap (λ o. cond (is_written i (logs (n + 1))) (Some (n + 1)) o) (owned i is) ∙ sym (next_owner logs n i)

pub clear_by_table : (logs : ℕ → List Record) (n : ℕ) (own : ℕ → Option ℕ) → AreOwners own logs n → TouchInodes (logs (n + 1))
    → (IsClear own (n + 1) (logs (n + 1)) ↔ IsClear (owner_among logs n) (n + 1) (logs (n + 1)))
clear_by_table logs n own owned inodes = (
  (λ clear i there. ap (is_other (n + 1)) (sym (owned i (inodes i there))) ∙ clear i there),
  (λ clear i there. ap (is_other (n + 1)) (owned i (inodes i there)) ∙ clear i there),
)

-- who stands in the table is one of the clients so far, and its records touch the inode
holder_writes : (logs : ℕ → List Record) (n i c : ℕ) → owner_among logs n i ≡ Some c → (1 ≤ c) × (c ≤ n) × (is_written i (logs c) ≡ true)
holder_writes logs zero i c e = absurd cc
holder_writes logs (suc n) i c e = elim (cases_Bool (is_written i (logs (suc n)))) [
  | inl t ↦
      let same : Some (suc n) ≡ Some c = sym (cond-true (is_written i (logs (suc n))) (Some (suc n)) (owner_among logs n i) t) ∙ e in
      let is : suc n ≡ c = cc in
      (omega arith, omega arith, subst (λ d. is_written i (logs d) ≡ true) is t)
  | inr f ↦
      let before = holder_writes logs n i c (sym (cond-false (is_written i (logs (suc n))) (Some (suc n)) (owner_among logs n i) f) ∙ e) in
      (before.0, omega (arith, before.1), before.2)
]

-- an inode that the records of one of them touch has a holder
writer_is_held : (logs : ℕ → List Record) (n i c : ℕ) → 1 ≤ c → c ≤ n → is_written i (logs c) ≡ true → (d : ℕ) × (owner_among logs n i ≡ Some d) × (d ≤ n)
writer_is_held logs zero i c one small there = absurd (omega arith)
writer_is_held logs (suc n) i c one small there = elim (cases_Bool (is_written i (logs (suc n)))) [
  | inl t ↦ (suc n, cond-true (is_written i (logs (suc n))) (Some (suc n)) (owner_among logs n i) t, omega arith)
  | inr f ↦ elim (cases_eq c (suc n)) [
    | inl is ↦ absurd (both_ways (is_written i (logs (suc n))) f (subst (λ d. is_written i (logs d) ≡ true) is there))
    | inr other ↦
        let before = writer_is_held logs n i c one (omega arith) there in
        (before.0, cond-false (is_written i (logs (suc n))) (Some (suc n)) (owner_among logs n i) f ∙ before.1, omega (arith, before.2))
  ]
]

client_from : (c : ℕ) → 1 ≤ c → c ≤ MAX_CLIENTS → is_client c ≡ true
client_from c one most = and_from (leb 1 c) (leb c MAX_CLIENTS) (le-leb 1 c one) (le-leb c MAX_CLIENTS most)

client_within : (c : ℕ) → is_client c ≡ true → (1 ≤ c) × (c ≤ MAX_CLIENTS)
client_within c is = let parts = and_parts (leb 1 c) (leb c MAX_CLIENTS) is in (leb-true 1 c parts.0, leb-true c MAX_CLIENTS parts.1)

-- each client's records touch nothing of those before it
abbrev pub AreClear : (ℕ → List Record) → Type 0
AreClear logs = (n : ℕ) → n < MAX_CLIENTS → IsClear (owner_among logs n) (n + 1) (logs (n + 1))

apart_are_clear : (logs : ℕ → List Record) → LogsAreApart logs → AreClear logs
apart_are_clear logs apart n small i there = of_holder (owner_among logs n i) refl
  where
    of_holder : (o : Option ℕ) → owner_among logs n i ≡ o → is_other (n + 1) o ≡ false
    of_holder None e = refl
    of_holder (Some c) e =
        let holds = holder_writes logs n i c e in
        absurd (both_ways (is_written i (logs c))
        (apart (n + 1) c i (client_from (n + 1) (omega arith) (omega arith)) (client_from c holds.0 (omega (arith, holds.1))) (omega (arith, holds.1)) there)
        holds.2)

-- a client's records touch nothing that those of one before it touch
later_untouched : (logs : ℕ → List Record) → AreClear logs → (c d i : ℕ) → 1 ≤ c → c < d → d ≤ MAX_CLIENTS → is_written i (logs c) ≡ true → is_written i (logs d) ≡ true → ⊥
later_untouched logs clear c zero i one less most first second = omega arith
later_untouched logs clear c (suc n) i one less most first second =
    let held = writer_is_held logs n i c one (omega arith) first in
    let same : n + 1 ≡ suc n = omega arith in
    let other : is_other (suc n) (Some held.0) ≡ true = not_from_false (eqb held.0 (suc n)) (ne_eqb held.0 (suc n) (λ is. omega (arith, held.2, is))) in
    let none : is_other (suc n) (owner_among logs n i) ≡ false =
    subst (λ m. is_written i (logs m) ≡ true → is_other m (owner_among logs n i) ≡ false) same (clear n (omega arith) i) second in
    both_ways (is_other (suc n) (Some held.0)) (ap (is_other (suc n)) (sym held.1) ∙ none) other

clear_are_apart : (logs : ℕ → List Record) → AreClear logs → LogsAreApart logs
clear_are_apart logs clear c d i is is' differ there = false_from_ne_true (is_written i (logs d)) (λ also.
    let c_within = client_within c is in
    let d_within = client_within d is' in
    elim (cases_order c d) [
      | inl same ↦ differ (sym same)
      | inr (inl less) ↦ later_untouched logs clear c d i c_within.0 less d_within.1 there also
      | inr (inr more) ↦ later_untouched logs clear d c i d_within.0 more c_within.1 also there
    ])

pub apart_where_clear : (logs : ℕ → List Record) → LogsAreApart logs ↔ AreClear logs
apart_where_clear logs = (apart_are_clear logs, clear_are_apart logs)
