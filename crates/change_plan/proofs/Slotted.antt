-- The slots of the inodes of a change: as they are read, and as a walk over the change comes to them.
use Rattle.std.proofs.Common.{◌≡◌, ◌<◌, ◌+◌, ◌∙◌, ℕ, zero, suc, List, [], ◌∷◌, ◌++◌, length, map, drop, get_or, true, Some, refl, sym, ap, subst, append_assoc, append-nil, arith}
use Rattle.std.specs.List.{Contains}
use Rattle.std.specs.FinMap as fin
use Rattle.std.proofs.lemmas.List.{map-append}
use Rattle.inode_plan.specs.graph_change.Bounds.{AreBounded}
use Rattle.inode_plan.specs.graph_change.Change.{Change, Changes}
use Rattle.inode_plan.specs.graph_change.View.{change_of}
use Rattle.inode_plan.specs.graph_change.declared.node_change.NodeChange.{NodeChange}
use Rattle.inode_plan.specs.layout.declared.slot.Slot.{Slot}
use Rattle.inode_plan.specs.layout.Places.{Sizes, is_inode}
use Rattle.inode_plan.specs.layout.Slot.{fits_slot}
use Rattle.inode_plan.specs.area_reader.Store.{Store, slot_read}
use Rattle.inode_plan.specs.area_commit.declared.slots.ChangedSlot.{ChangedSlot}
use Rattle.inode_plan.proofs.area_commit_lemmas.Members.{cons_here, cons_there}
use Rattle.change_plan.specs.ReadSlots.{HasSlot, HaveSlots}
use Rattle.change_plan.proofs.Climbs.{seen_as, has_here}
use Rattle.change_plan.proofs.Walked.{inodes_of}

module _ (g : Sizes) (s : Store) where
  -- ---- as a walk comes to them

  pub slots_long : (is : List ℕ) (xs : List ChangedSlot) → HaveSlots g s is xs → length xs ≡ length is
  slots_long [] [] have = refl
  slots_long [] (x ∷ xs) have = absurd have
  slots_long (i ∷ is) [] have = absurd have
  slots_long (i ∷ is) (x ∷ xs) have = ap suc (slots_long is xs have.1)

  -- the next one stands there, with those of the inodes behind it
  next_slot : (at : ℕ) (xs : List ChangedSlot) (d : ChangedSlot) (i : ℕ) (is : List ℕ) → HaveSlots g s (i ∷ is) (drop at xs) → (at < length xs) × HasSlot g s i (get_or xs at d) × HaveSlots g s is (drop (at + 1) xs)
  next_slot zero [] d i is have = absurd have
  next_slot zero (x ∷ xs) d i is have = (omega arith, have.0, have.1)
  next_slot (suc at) [] d i is have = absurd have
  next_slot (suc at) (x ∷ xs) d i is have = (
      let r = next_slot at xs d i is have in
      let more : suc (at + 1) ≡ suc at + 1 = omega arith in
      (omega (arith, r.0), r.1, subst (λ (n : ℕ). HaveSlots g s is (drop n (x ∷ xs))) more r.2)
      )

  -- the same, of a map in memory
  pub first_slots : (cs : Changes) (es fs : List (ℕ × NodeChange)) (xs : List ChangedSlot) → fin.entries cs ≡ seen_as change_of es → fs ≡ es → HaveSlots g s (fin.keys cs) xs → HaveSlots g s (map (λ (e : ℕ × Change). e.0) (seen_as change_of fs)) xs
  first_slots cs es fs xs seen given have =
      subst (λ (zs : List (ℕ × NodeChange)). HaveSlots g s (map (λ (e : ℕ × Change). e.0) (seen_as change_of zs)) xs) (sym given)
      (subst (λ (zs : List (ℕ × Change)). HaveSlots g s (map (λ (e : ℕ × Change). e.0) zs) xs) seen have)

  pub its_slot : (at : ℕ) (xs : List ChangedSlot) (d : ChangedSlot) (es : List (ℕ × NodeChange)) (i : ℕ) (n : NodeChange) (rest : List (ℕ × NodeChange)) → es ≡ (i, n) ∷ rest → HaveSlots g s (map (λ (e : ℕ × Change). e.0) (seen_as change_of es)) (drop at xs)
      → (at < length xs) × HasSlot g s i (get_or xs at d) × HaveSlots g s (map (λ (e : ℕ × Change). e.0) (seen_as change_of rest)) (drop (at + 1) xs)
  its_slot at xs d es i n rest steps have =
      next_slot at xs d i (map (λ (e : ℕ × Change). e.0) (seen_as change_of rest)) (subst (λ (zs : List (ℕ × NodeChange)). HaveSlots g s (map (λ (e : ℕ × Change). e.0) (seen_as change_of zs)) (drop at xs)) steps have)

  -- ---- as they are read

  one_more : (is : List ℕ) (xs : List ChangedSlot) (i : ℕ) (x : Slot) → HaveSlots g s is xs → slot_read g s i ≡ Some x → fits_slot g x ≡ true → HaveSlots g s (is ++ i ∷ []) (xs ++ record { inode = i; slot = x } ∷ [])
  one_more [] [] i x have read fits = (record { number = refl; slot_is = read; fits = fits }, tt)
  one_more [] (y ∷ ys) i x have read fits = absurd have
  one_more (j ∷ js) [] i x have read fits = absurd have
  one_more (j ∷ js) (y ∷ ys) i x have read fits = (have.0, one_more js ys i x have.1 read fits)

  -- The slots of all inodes of a change but the rest.
  pub record AreRead (cs : Changes) (xs : List ChangedSlot) (rest : List (ℕ × Change)) : Type 0 where
    pub inside : (e : ℕ × Change) → Contains rest e → Contains (fin.entries cs) e
    pub keys : inodes_of xs ++ map (λ e. e.0) rest ≡ fin.keys cs
    pub have : HaveSlots g s (inodes_of xs) xs

  module _ (cs : Changes) where
    pub none_read : AreRead cs [] (fin.entries cs)
    none_read = record { inside = λ e at. at; keys = refl; have = tt }

    pub its_number : AreBounded cs → (xs : List ChangedSlot) (e : ℕ × Change) (rest : List (ℕ × Change)) → AreRead cs xs (e ∷ rest) → is_inode e.0 ≡ true
    its_number bounded xs e rest read = bounded.inodes e.0 (has_here cs e (read.inside e (cons_here e rest e refl)))

    pub one_read : (xs : List ChangedSlot) (e : ℕ × Change) (rest : List (ℕ × Change)) (x : Slot) → AreRead cs xs (e ∷ rest) → slot_read g s e.0 ≡ Some x → fits_slot g x ≡ true → AreRead cs (xs ++ record { inode = e.0; slot = x } ∷ []) rest
    one_read xs e rest x read is fits =
        let more : inodes_of (xs ++ record { inode = e.0; slot = x } ∷ []) ≡ inodes_of xs ++ e.0 ∷ [] = map-append (λ (c : ChangedSlot). c.inode) xs (record { inode = e.0; slot = x } ∷ []) in
        record {
          inside = λ d at. read.inside d (cons_there e rest d at);
          keys = ap (λ (ks : List ℕ). ks ++ map (λ (d : ℕ × Change). d.0) rest) more ∙ (append_assoc (inodes_of xs) (e.0 ∷ []) (map (λ (d : ℕ × Change). d.0) rest) ∙ read.keys);
          have = subst (λ (ks : List ℕ). HaveSlots g s ks (xs ++ record { inode = e.0; slot = x } ∷ [])) (sym more) (one_more (inodes_of xs) xs e.0 x read.have is fits);
        }

    pub all_read : (xs : List ChangedSlot) → AreRead cs xs [] → HaveSlots g s (fin.keys cs) xs
    all_read xs read = subst (λ (ks : List ℕ). HaveSlots g s ks xs) (sym (append-nil (inodes_of xs)) ∙ read.keys) read.have
