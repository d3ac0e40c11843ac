-- The words of the map beneath, in terms of the list of blocks.
use Rattle.std.proofs.Common.{◌≡◌, inl, inr, ℕ, ◌+◌, ◌-◌, ◌≤◌, ◌<◌, Bool, true, false, cond, ◌&&◌, List, [], ◌∷◌, ◌++◌, length, take, drop, get_or, Option, Some, None, option_map, refl, sym, ◌∙◌, ap, subst, arith, append_assoc}
use Rattle.std.specs.Prelude.{◌==◌, not, is_some, slice_get}
use Rattle.std.specs.List.{IsDistinct, AllByRecursion}
use Rattle.std.specs.Map.{keys_of, lookup, lookup_entry, remove_entry}
use Rattle.std.specs.Option.{option_map_or}
use Rattle.std.proofs.lemmas.Bool.{cases_Bool, and_parts, and_from, eqb-true, eq-eqb, ne_eqb, cond-true, cond-false, not_from_true, not_from_false}
use Rattle.std.proofs.lemmas.Map.Keys.{IsDistinct-head, IsDistinct-tail}
use Rattle.std.proofs.lemmas.List.{length-map, take_all, take-map, drop_more, take_more}
use Rattle.lru.specs.LruCache.{LruCache, promoted, put_entries, last_entry}
use Rattle.lru.proofs.Pairs.{last_of_push}
use Rattle.block_cache.specs.declared.blocks.Place.{Place}
use Rattle.block_cache.specs.CacheList.{Block, bytes_at, bytes_if_first, without, in_front, use_block, put_block, without_file, is_same}
use Rattle.block_cache.specs.Entries.{block_of, blocks_in, others_than, turn_entry}

-- whether two places are the same
abbrev pub same_place : Place → Place → Bool
same_place p q = (p.inode == q.inode) && (p.block == q.block)

abbrev Entry : Type 0
Entry = Place × List ℕ

-- no two entries have one place
abbrev pub AreApart : List Entry → Type 0
AreApart es = IsDistinct same_place (keys_of es)

pub same_is : (p q : Place) → same_place p q ≡ true → p ≡ q
same_is p q e =
    let parts = and_parts (p.inode == q.inode) (p.block == q.block) e in
    let i = eqb-true p.inode q.inode parts.0 in
    let n = eqb-true p.block q.block parts.1 in
    λ k. record { inode = i k; block = n k }

same_itself : (p : Place) → same_place p p ≡ true
same_itself p = and_from (p.inode == p.inode) (p.block == p.block) (eq-eqb p.inode p.inode refl) (eq-eqb p.block p.block refl)

same_back : (p q : Place) → same_place p q ≡ false → same_place q p ≡ false
same_back p q e = elim (cases_Bool (same_place q p)) [
  | inl t ↦ let is = same_is q p t in absurd (let no : true ≡ false = sym (same_itself p) ∙ subst (λ x. same_place p x ≡ false) is e in cc no)
  | inr f ↦ f
]

-- none of these entries has the place
abbrev pub IsFree : Place → List Entry → Type 0
IsFree p es = AllByRecursion (λ (q : Place). same_place p q ≡ false) (keys_of es)

module _ (p : Place) where
  pub found : (es : List Entry) → bytes_at p.inode p.block (blocks_in es) ≡ lookup (same_place p) es
  found [] = refl
  found (e ∷ es) = ap (λ r. cond (same_place p e.0) (Some e.1) r) (found es)

  -- the entry that is found has the place
  pub found_entry : (es : List Entry) → lookup_entry (same_place p) es ≡ option_map (λ (v : List ℕ). (p, v)) (lookup (same_place p) es)
  found_entry [] = refl
  found_entry (e ∷ es) = elim (cases_Bool (same_place p e.0)) [
    | inl t ↦ cond-true (same_place p e.0) (Some e) (lookup_entry (same_place p) es) t
        ∙ ap (λ (q : Place). Some (q, e.1)) (sym (same_is p e.0 t))
        ∙ ap (option_map (λ (v : List ℕ). (p, v))) (sym (cond-true (same_place p e.0) (Some e.1) (lookup (same_place p) es) t))
    | inr f ↦ cond-false (same_place p e.0) (Some e) (lookup_entry (same_place p) es) f
        ∙ found_entry es
        ∙ ap (option_map (λ (v : List ℕ). (p, v))) (sym (cond-false (same_place p e.0) (Some e.1) (lookup (same_place p) es) f))
  ]

  abbrev others : List Block → List Block
  others bs = without p.inode p.block bs

  abbrev step : Entry → List Entry → List Block
  step e es = cond (not (same_place p e.0)) (block_of e ∷ others (blocks_in es)) (others (blocks_in es))

  free_stays : (es : List Entry) → IsFree p es → others (blocks_in es) ≡ blocks_in es
  free_stays [] free = refl
  free_stays (e ∷ es) free =
      cond-true (not (same_place p e.0)) (block_of e ∷ others (blocks_in es)) (others (blocks_in es)) (not_from_false (same_place p e.0) free.0)
      ∙ ap (λ (bs : List Block). block_of e ∷ bs) (free_stays es free.1)

  free_past : (e : Entry) (es : List Entry) → AreApart (e ∷ es) → same_place p e.0 ≡ true → IsFree p es
  free_past e es apart t = subst (λ (q : Place). IsFree q es) (sym (same_is p e.0 t)) (IsDistinct-head same_place e.0 (keys_of es) apart)

  -- what is left without the entry are all the others
  pub removed : (es : List Entry) → AreApart es → others (blocks_in es) ≡ blocks_in (remove_entry (same_place p) es)
  removed [] apart = refl
  removed (e ∷ es) apart = elim (cases_Bool (same_place p e.0)) [
    | inl t ↦ cond-false (not (same_place p e.0)) (block_of e ∷ others (blocks_in es)) (others (blocks_in es)) (not_from_true (same_place p e.0) t)
        ∙ free_stays es (free_past e es apart t)
        ∙ ap blocks_in (sym (cond-true (same_place p e.0) es (e ∷ remove_entry (same_place p) es) t))
    | inr f ↦ cond-true (not (same_place p e.0)) (block_of e ∷ others (blocks_in es)) (others (blocks_in es)) (not_from_false (same_place p e.0) f)
        ∙ ap (λ (bs : List Block). block_of e ∷ bs) (removed es (IsDistinct-tail same_place e.0 (keys_of es) apart))
        ∙ ap blocks_in (sym (cond-false (same_place p e.0) es (e ∷ remove_entry (same_place p) es) f))
  ]

  -- where none is found, all are others
  pub none_removed : (es : List Entry) → lookup (same_place p) es ≡ None → others (blocks_in es) ≡ blocks_in es
  none_removed [] none = refl
  none_removed (e ∷ es) none = elim (cases_Bool (same_place p e.0)) [
    | inl t ↦ absurd (let no : Some e.1 ≡ None = sym (cond-true (same_place p e.0) (Some e.1) (lookup (same_place p) es) t) ∙ none in cc no)
    | inr f ↦ cond-true (not (same_place p e.0)) (block_of e ∷ others (blocks_in es)) (others (blocks_in es)) (not_from_false (same_place p e.0) f)
        ∙ ap (λ (bs : List Block). block_of e ∷ bs) (none_removed es (sym (cond-false (same_place p e.0) (Some e.1) (lookup (same_place p) es) f) ∙ none))
  ]

  one_fewer : (es : List Entry) (v : List ℕ) → lookup (same_place p) es ≡ Some v → length (remove_entry (same_place p) es) + 1 ≡ length es
  one_fewer [] v found = absurd (cc found)
  one_fewer (e ∷ es) v found = elim (cases_Bool (same_place p e.0)) [
    | inl t ↦ omega (arith, ap length (cond-true (same_place p e.0) es (e ∷ remove_entry (same_place p) es) t))
    | inr f ↦
        let on = one_fewer es v (sym (cond-false (same_place p e.0) (Some e.1) (lookup (same_place p) es) f) ∙ found) in
        omega (arith, on, ap length (cond-false (same_place p e.0) es (e ∷ remove_entry (same_place p) es) f))
  ]

  -- an entry that is used
  promoted_by : (es : List Entry) → AreApart es → (o : Option (List ℕ)) → lookup (same_place p) es ≡ o →
      blocks_in (option_map_or (λ (e : Entry). e ∷ remove_entry (same_place p) es) (option_map (λ (v : List ℕ). (p, v)) o) es)
      ≡ option_map_or (λ bytes. in_front p.inode p.block bytes (blocks_in es)) o (blocks_in es)
  promoted_by es apart None is = refl
  promoted_by es apart (Some v) is = ap (λ (bs : List Block). block_of (p, v) ∷ bs) (sym (removed es apart))

  pub promoted_is_used : (es : List Entry) → AreApart es → blocks_in (promoted (same_place p) es) ≡ use_block p.inode p.block (blocks_in es)
  promoted_is_used es apart =
      ap (λ o. blocks_in (option_map_or (λ (e : Entry). e ∷ remove_entry (same_place p) es) o es)) (found_entry es)
      ∙ promoted_by es apart (lookup (same_place p) es) refl
      ∙ ap (λ o. option_map_or (λ bytes. in_front p.inode p.block bytes (blocks_in es)) o (blocks_in es)) (sym (found es))

  -- the first entry
  pub first_is : (es : List Entry) (q : Place) (v : List ℕ) → Some (q, v) ≡ slice_get es 0 → same_place p q ≡ true → Some v ≡ bytes_if_first p.inode p.block (blocks_in es)
  first_is [] q v is same = absurd (cc is)
  first_is (e ∷ es) q v is same =
      let here : (q, v) ≡ e = cc is in
      ap (λ (f : Entry). Some f.1) here ∙ sym (cond-true (same_place p e.0) (Some e.1) None (sym (ap (λ (f : Entry). same_place p f.0) here) ∙ same))

  pub first_other : (es : List Entry) (q : Place) (v : List ℕ) → Some (q, v) ≡ slice_get es 0 → same_place p q ≡ false → None ≡ bytes_if_first p.inode p.block (blocks_in es)
  first_other [] q v is other = absurd (cc is)
  first_other (e ∷ es) q v is other =
      let here : (q, v) ≡ e = cc is in
      sym (cond-false (same_place p e.0) (Some e.1) None (sym (ap (λ (f : Entry). same_place p f.0) here) ∙ other))

  pub first_none : (es : List Entry) → None ≡ slice_get es 0 → None ≡ bytes_if_first p.inode p.block (blocks_in es)
  first_none [] none = refl
  first_none (e ∷ es) none = absurd (cc none)

  -- to use the first one changes nothing
  promoted_first : (e : Entry) (es : List Entry) → same_place p e.0 ≡ true → promoted (same_place p) (e ∷ es) ≡ e ∷ es
  promoted_first e es t =
      ap (λ o. option_map_or (λ (f : Entry). f ∷ remove_entry (same_place p) (e ∷ es)) o (e ∷ es)) (cond-true (same_place p e.0) (Some e) (lookup_entry (same_place p) es) t)
      ∙ ap (λ (l : List Entry). e ∷ l) (cond-true (same_place p e.0) es (e ∷ remove_entry (same_place p) es) t)

  pub first_is_used : (es : List Entry) → AreApart es → is_some (bytes_if_first p.inode p.block (blocks_in es)) ≡ true → blocks_in es ≡ use_block p.inode p.block (blocks_in es)
  first_is_used [] apart some = absurd (cc some)
  first_is_used (e ∷ es) apart some = elim (cases_Bool (same_place p e.0)) [
    | inl t ↦ ap blocks_in (sym (promoted_first e es t)) ∙ promoted_is_used (e ∷ es) apart
    | inr f ↦ absurd (let no : false ≡ true = sym (ap is_some (cond-false (same_place p e.0) (Some e.1) None f)) ∙ some in cc no)
  ]

  -- an entry that is put
  abbrev with_put : List Entry → List ℕ → Option Entry → List Entry
  with_put es v o = option_map_or (λ (e : Entry). (e.0, v) ∷ remove_entry (same_place p) es) o ((p, v) ∷ take 255 es)

  put_by : (es : List Entry) (v : List ℕ) → AreApart es → length es ≤ 256 → (o : Option (List ℕ)) → lookup (same_place p) es ≡ o →
      blocks_in (with_put es v (option_map (λ (w : List ℕ). (p, w)) o)) ≡ put_block p.inode p.block v (blocks_in es)
  put_by es v apart few None is =
      ap (λ (bs : List Block). block_of (p, v) ∷ bs) (sym (take-map block_of 255 es) ∙ ap (take 255) (sym (none_removed es is)))
  put_by es v apart few (Some w) is =
      let rest = remove_entry (same_place p) es in
      let less : length (block_of (p, v) ∷ blocks_in rest) ≤ 256 = omega (arith, one_fewer es w is, length-map rest block_of) in
      sym (take_all 256 (block_of (p, v) ∷ blocks_in rest) less) ∙ ap (λ (bs : List Block). take 256 (block_of (p, v) ∷ bs)) (sym (removed es apart))

  pub put_is_put : (c : LruCache Place (List ℕ)) (v : List ℕ) → c.cap ≡ 256 → AreApart c.entries → length c.entries ≤ c.cap → blocks_in (put_entries same_place c p v) ≡ put_block p.inode p.block v (blocks_in c.entries)
  put_is_put c v cap apart few =
      (λ k. blocks_in (option_map_or (λ (e : Entry). (e.0, v) ∷ remove_entry (same_place p) c.entries) (lookup_entry (same_place p) c.entries) ((p, v) ∷ take (cap k - 1) c.entries)))
      ∙ ap (λ o. blocks_in (with_put c.entries v o)) (found_entry c.entries) ∙ put_by c.entries v apart (omega (arith, few, cap)) (lookup (same_place p) c.entries) refl

-- what holds of each place holds of each block
each : (e : Entry) (es : List Entry) → IsFree e.0 es → AllByRecursion (λ (b : Block). is_same (block_of e) b ≡ false) (blocks_in es)
each e [] free = tt
each e (f ∷ es) free = (free.0, each e es free.1)

-- and of the last one
ends : (P : Place → Type 0) (e : Entry) (es : List Entry) → AllByRecursion P (keys_of (es ++ e ∷ [])) → P e.0
ends P e [] all = all.0
ends P e (f ∷ es) all = ends P e es all.1

-- no two blocks of a cache are the same
pub once : (es : List Entry) → AreApart es → IsDistinct is_same (blocks_in es)
unfolding IsDistinct
once [] apart = tt
once (e ∷ es) apart = (each e es apart.0, once es apart.1)

-- ---- a file's blocks, turned out one by one

-- the last entry, that is none of the others, is found and goes in front
free_before : (e : Entry) (es : List Entry) → AreApart (es ++ e ∷ []) → IsFree e.0 es
free_before e [] apart = tt
free_before e (f ∷ es) apart =
    (same_back f.0 e.0 (ends (λ q. same_place f.0 q ≡ false) e es (IsDistinct-head same_place f.0 (keys_of (es ++ e ∷ [])) apart)), free_before e es (IsDistinct-tail same_place f.0 (keys_of (es ++ e ∷ [])) apart))

last_found : (e : Entry) (es : List Entry) → IsFree e.0 es → lookup_entry (same_place e.0) (es ++ e ∷ []) ≡ Some e
last_found e [] free = cond-true (same_place e.0 e.0) (Some e) None (same_itself e.0)
last_found e (f ∷ es) free = cond-false (same_place e.0 f.0) (Some f) (lookup_entry (same_place e.0) (es ++ e ∷ [])) free.0 ∙ last_found e es free.1

last_removed : (e : Entry) (es : List Entry) → IsFree e.0 es → remove_entry (same_place e.0) (es ++ e ∷ []) ≡ es
last_removed e [] free = cond-true (same_place e.0 e.0) [] (e ∷ []) (same_itself e.0)
last_removed e (f ∷ es) free =
    cond-false (same_place e.0 f.0) (es ++ e ∷ []) (f ∷ remove_entry (same_place e.0) (es ++ e ∷ [])) free.0 ∙ ap (λ (l : List Entry). f ∷ l) (last_removed e es free.1)

pub last_promoted : (e : Entry) (es : List Entry) → AreApart (es ++ e ∷ []) → promoted (same_place e.0) (es ++ e ∷ []) ≡ e ∷ es
last_promoted e es apart =
    let free = free_before e es apart in
    ap (λ o. option_map_or (λ (f : Entry). f ∷ remove_entry (same_place e.0) (es ++ e ∷ [])) o (es ++ e ∷ [])) (last_found e es free)
    ∙ ap (λ (l : List Entry). e ∷ l) (last_removed e es free)

-- the turn of the last entry: it is taken out, or goes in front
module _ (inode : ℕ) (all es : List Entry) (e : Entry) (is : all ≡ es ++ e ∷ []) (p : Place) (v : List ℕ) (last : Some (p, v) ≡ last_entry all) where
  is_last : (p, v) ≡ e
  is_last = let here : Some (p, v) ≡ Some e = last ∙ ap last_entry is ∙ (last_of_push es e).0 in cc here

  pub turned_out : p.inode ≡ inode → take (length all - 1) all ≡ turn_entry inode es e
  turned_out of =
      ap (λ (l : List Entry). take (length l - 1) l) is ∙ (last_of_push es e).1
      ∙ sym (cond-true (e.0.inode == inode) es (e ∷ es) (eq-eqb e.0.inode inode (sym (ap (λ (f : Entry). f.0.inode) is_last) ∙ of)))

  pub turned_front : (p.inode ≡ inode → ⊥) → AreApart all → promoted (same_place p) all ≡ turn_entry inode es e
  turned_front other apart =
      (λ k. promoted (same_place (is_last k).0) (is k)) ∙ last_promoted e es (subst AreApart is apart)
      ∙ sym (cond-false (e.0.inode == inode) es (e ∷ es) (ne_eqb e.0.inode inode (λ same. other (ap (λ (f : Entry). f.0.inode) is_last ∙ same))))

pub none_last : (all es : List Entry) (e : Entry) → all ≡ es ++ e ∷ [] → None ≡ last_entry all → ⊥
none_last all es e is none = let no' : None ≡ Some e = none ∙ ap last_entry is ∙ (last_of_push es e).0 in cc no'

-- the entries once all but the first so many have had their turn
abbrev pub after_turns : ℕ → ℕ → List Entry → List Entry
after_turns inode left es = others_than inode (drop left es) ++ take left es

pub turn_from : (inode m : ℕ) (es : List Entry) (e : Entry) → m < length es → after_turns inode (m + 1) es ≡ (others_than inode (drop (m + 1) es) ++ take m es) ++ get_or es m e ∷ []
turn_from inode m es e lt =
    let kept = others_than inode (drop (m + 1) es) in
    ap (λ (l : List Entry). kept ++ l) (take_more es m e lt) ∙ sym (append_assoc kept (take m es) (get_or es m e ∷ []))

pub turn_to : (inode m : ℕ) (es : List Entry) (e : Entry) → m < length es → turn_entry inode (others_than inode (drop (m + 1) es) ++ take m es) (get_or es m e) ≡ after_turns inode m es
turn_to inode m es e lt =
    let x = get_or es m e in
    let kept = others_than inode (drop (m + 1) es) in
    let first : others_than inode (drop m es) ≡ cond (not (x.0.inode == inode)) (x ∷ kept) kept = ap (others_than inode) (drop_more es m e lt) in
    elim (cases_Bool (x.0.inode == inode)) [
      | inl t ↦ cond-true (x.0.inode == inode) (kept ++ take m es) (x ∷ (kept ++ take m es)) t
          ∙ ap (λ (l : List Entry). l ++ take m es) (sym (first ∙ cond-false (not (x.0.inode == inode)) (x ∷ kept) kept (not_from_true (x.0.inode == inode) t)))
      | inr f ↦ cond-false (x.0.inode == inode) (kept ++ take m es) (x ∷ (kept ++ take m es)) f
          ∙ ap (λ (l : List Entry). l ++ take m es) (sym (first ∙ cond-true (not (x.0.inode == inode)) (x ∷ kept) kept (not_from_false (x.0.inode == inode) f)))
    ]

-- the others of the entries are the others of the blocks
pub others_are_others : (inode : ℕ) (es : List Entry) → blocks_in (others_than inode es) ≡ without_file inode (blocks_in es)
others_are_others inode [] = refl
others_are_others inode (e ∷ es) = elim (cases_Bool (not (e.0.inode == inode))) [
  | inl t ↦ ap blocks_in (cond-true (not (e.0.inode == inode)) (e ∷ others_than inode es) (others_than inode es) t)
      ∙ ap (λ (bs : List Block). block_of e ∷ bs) (others_are_others inode es)
      ∙ sym (cond-true (not (e.0.inode == inode)) (block_of e ∷ without_file inode (blocks_in es)) (without_file inode (blocks_in es)) t)
  | inr f ↦ ap blocks_in (cond-false (not (e.0.inode == inode)) (e ∷ others_than inode es) (others_than inode es) f)
      ∙ others_are_others inode es
      ∙ sym (cond-false (not (e.0.inode == inode)) (block_of e ∷ without_file inode (blocks_in es)) (without_file inode (blocks_in es)) f)
]
