-- What is found in a table of owners, and what is put into it.
use Rattle.std.proofs.Common.{◌≡◌, inl, inr, ℕ, zero, suc, ◌+◌, ◌<◌, Bool, true, false, eqb, cond, ◌||◌, List, [], ◌∷◌, ◌++◌, length, drop, get_or, replicate, Option, Some, None, refl, sym, ap, subst, ◌∙◌}
use Rattle.std.specs.Prelude.{find, map}
use Rattle.std.specs.List.{flat_map}
use Rattle.std.proofs.lemmas.Bool.{cases_Bool, cond-true, cond-false, eqb-true, eq-eqb, or_cases, both_ways, false≢true}
use Rattle.std.proofs.lemmas.List.{at_drop_more}
use Rattle.std.proofs.lemmas.List.Folds.{list_any-append}
use Rattle.update_log.specs.log_record.Grammar.{IsInode}
use Rattle.update_log.specs.log_record.Touches.{inodes_of}
use Rattle.update_log.specs.file_graph.Graph.{is_among, touches}
use Rattle.update_log.specs.log_record.declared.format.Record.{Record}
use Rattle.world_invariant.specs.Logs.{is_touched, is_written}
use Rattle.log_survey.specs.Owners.{AreTouchedBy, IsClear, listed, touched_inodes, is_foreign, owner, with_owner}

-- what records touch is what stands in the list
pub written_is_touched : (i : ℕ) (rs : List Record) → is_written i rs ≡ is_among i (touched_inodes rs)
written_is_touched i [] = refl
written_is_touched i (r ∷ rs) =
    ap (λ b. is_touched i r || b) (written_is_touched i rs) ∙ sym (list_any-append (λ j. eqb j i) (touches r.effects) (touched_inodes rs))

-- what the lists of records have is what the records touch
pub listed_are_touched : (rs : List Record) → listed (map inodes_of rs) ≡ touched_inodes rs
listed_are_touched [] = refl
listed_are_touched (r ∷ rs) = ap (λ (is : List ℕ). touches r.effects ++ is) (listed_are_touched rs)

pub listed_is : (rs : List Record) (lists : List (List ℕ)) → AreTouchedBy rs lists → listed lists ≡ touched_inodes rs
listed_is rs lists are = ap listed are ∙ listed_are_touched rs

pub one_or_other : (a b : Bool) (x y : Option ℕ) → cond (a || b) x y ≡ cond b x (cond a x y)
one_or_other true true x y = refl
one_or_other true false x y = refl
one_or_other false true x y = refl
one_or_other false false x y = refl

-- ---- the first that passes a test

pub find_skip : (p : ℕ → Bool) (is js : List ℕ) → find p is ≡ None → find p (is ++ js) ≡ find p js
find_skip p [] js e = refl
find_skip p (i ∷ is) js e = elim (cases_Bool (p i)) [
  | inl t ↦ let hit : Some i ≡ None = sym (cond-true (p i) (Some i) (find p is) t) ∙ e in absurd cc
  | inr f ↦ cond-false (p i) (Some i) (find p (is ++ js)) f ∙ find_skip p is js (sym (cond-false (p i) (Some i) (find p is) f) ∙ e)
]

pub find_hit : (p : ℕ → Bool) (is js : List ℕ) (x : ℕ) → find p is ≡ Some x → find p (is ++ js) ≡ Some x
find_hit p [] js x e = absurd cc
find_hit p (i ∷ is) js x e = elim (cases_Bool (p i)) [
  | inl t ↦ cond-true (p i) (Some i) (find p (is ++ js)) t ∙ sym (cond-true (p i) (Some i) (find p is) t) ∙ e
  | inr f ↦ cond-false (p i) (Some i) (find p (is ++ js)) f ∙ find_hit p is js x (sym (cond-false (p i) (Some i) (find p is) f) ∙ e)
]

-- where none is found, none of the list passes
none_passes : (p : ℕ → Bool) (is : List ℕ) → find p is ≡ None → (i : ℕ) → is_among i is ≡ true → p i ≡ false
none_passes p [] e i there = absurd (false≢true there)
none_passes p (j ∷ js) e i there = elim (cases_Bool (p j)) [
  | inl t ↦ let hit : Some j ≡ None = sym (cond-true (p j) (Some j) (find p js) t) ∙ e in absurd cc
  | inr f ↦ elim (or_cases (eqb j i) (is_among i js) there) [
    | inl same ↦ subst (λ k. p k ≡ false) (eqb-true j i same) f
    | inr later ↦ none_passes p js (sym (cond-false (p j) (Some j) (find p js) f) ∙ e) i later
  ]
]

-- what is found stands in the list, and passes
found_there : (p : ℕ → Bool) (is : List ℕ) (x : ℕ) → find p is ≡ Some x → (is_among x is ≡ true) × (p x ≡ true)
found_there p [] x e = absurd cc
found_there p (j ∷ js) x e = elim (cases_Bool (p j)) [
  | inl t ↦
      let same : Some j ≡ Some x = sym (cond-true (p j) (Some j) (find p js) t) ∙ e in
      let is : j ≡ x = cc in
      (ap (λ b. b || is_among x js) (eq-eqb j x is), subst (λ k. p k ≡ true) is t)
  | inr f ↦
      let later = found_there p js x (sym (cond-false (p j) (Some j) (find p js) f) ∙ e) in
      (either_way (eqb j x) (is_among x js) later.0, later.1)
]
  where
    either_way : (a b : Bool) → b ≡ true → (a || b) ≡ true
    either_way true b e = refl
    either_way false b e = e

pub none_is_clear : (own : ℕ → Option ℕ) (client : ℕ) (rs : List Record) → find (is_foreign own client) (touched_inodes rs) ≡ None → IsClear own client rs
none_is_clear own client rs e i there = none_passes (is_foreign own client) (touched_inodes rs) e i (sym (written_is_touched i rs) ∙ there)

pub found_not_clear : (own : ℕ → Option ℕ) (client : ℕ) (rs : List Record) (x : ℕ) → find (is_foreign own client) (touched_inodes rs) ≡ Some x → IsClear own client rs → ⊥
found_not_clear own client rs x e clear =
    let found = found_there (is_foreign own client) (touched_inodes rs) x e in
    both_ways (is_foreign own client x) (clear x (written_is_touched x rs ∙ found.0)) found.1

-- ---- tables

empty_owner : (n i : ℕ) → owner (replicate n None) i ≡ None
empty_owner zero i = refl
empty_owner (suc n) zero = refl
empty_owner (suc n) (suc i) = empty_owner n i

pub all_empty : (n : ℕ) (clients : List (Option ℕ)) → clients ≡ replicate n None → (i : ℕ) → owner clients i ≡ None
all_empty n clients is i = ap (λ t. owner t i) is ∙ empty_owner n i

-- ---- a loop over what has inodes each: lists, or inodes

module _ {X : Type 0} (inodes : X → List ℕ) (xs : List X) (k : ℕ) (x : X) (small : k < length xs) (is : x ≡ get_or xs k x) where
  -- what is left begins with the one in hand
  in_hand : {Y : Type 0} (F : List X → Y) → F (drop k xs) ≡ F (x ∷ drop (k + 1) xs)
  in_hand F = at_drop_more F xs k x small ∙ ap (λ y. F (y ∷ drop (k + 1) xs)) (sym is)

  pub skip_one : (p : ℕ → Bool) → find p (inodes x) ≡ None → find p (flat_map inodes (drop k xs)) ≡ find p (flat_map inodes xs)
      → find p (flat_map inodes (drop (k + 1) xs)) ≡ find p (flat_map inodes xs)
  skip_one p none so_far =
      sym (find_skip p (inodes x) (flat_map inodes (drop (k + 1) xs)) none) ∙ sym (in_hand (λ ys. find p (flat_map inodes ys))) ∙ so_far

  pub hit_one : (p : ℕ → Bool) (i : ℕ) → find p (inodes x) ≡ Some i → find p (flat_map inodes (drop k xs)) ≡ find p (flat_map inodes xs)
      → find p (flat_map inodes xs) ≡ Some i
  hit_one p i found so_far =
      sym so_far ∙ in_hand (λ ys. find p (flat_map inodes ys)) ∙ find_hit p (inodes x) (flat_map inodes (drop (k + 1) xs)) i found

  pub own_one : (client : ℕ) (start own new : ℕ → Option ℕ) → ((i : ℕ) → IsInode i → new i ≡ with_owner own client (inodes x) i)
      → ((i : ℕ) → IsInode i → with_owner own client (flat_map inodes (drop k xs)) i ≡ with_owner start client (flat_map inodes xs) i)
      → (i : ℕ) → IsInode i → with_owner new client (flat_map inodes (drop (k + 1) xs)) i ≡ with_owner start client (flat_map inodes xs) i
  own_one client start own new put so_far i there =
      let rest : List ℕ = flat_map inodes (drop (k + 1) xs) in
      ap (λ o. cond (is_among i rest) (Some client) o) (put i there)
      ∙ sym (one_or_other (is_among i (inodes x)) (is_among i rest) (Some client) (own i))
      ∙ ap (λ b. cond b (Some client) (own i)) (sym (list_any-append (λ j. eqb j i) (inodes x) rest))
      ∙ sym (in_hand (λ ys. with_owner own client (flat_map inodes ys) i))
      ∙ so_far i there
