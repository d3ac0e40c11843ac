-- Blocks that are made before bytes are put into them, and dropped again where there is no memory for all.
use Rattle.std.proofs.Common.{◌≡◌, ◌≢◌, ◌⊎◌, inl, inr, ℕ, zero, suc, ◌+◌, ◌-◌, ◌<◌, ◌≤◌, ◌==◌, cond, Bool, true, false, List, [], ◌∷◌, ◌++◌, refl, Some, None, Option, ap, sym, ◌∙◌, arith}
use Rattle.std.specs.Prelude.{◌||◌, not, is_some, nat_eq, option_map, unwrap_or, Result, Ok, Err, OnErr}
use Rattle.std.specs.List.{range_with_len, list_any}
use Rattle.std.specs.Ordering.{nat_cmp}
use Rattle.std.specs.BTreeMap.{BTreeMap, get, Updates}
use Rattle.std.specs.Cmp.{nat_cmp_total, unsigned_tied}
use Rattle.std.specs.FinMap as fin
use Rattle.std.proofs.lemmas.Bool.{cases_lt, eq-eqb, false≢true}
use Rattle.std.proofs.lemmas.Bool.Decides.{eqb_tells}
use Rattle.graph_change.specs.Change.{Patch, Patches, blank, patch_at, over_patch, put_blocks}
use Rattle.graph_change.specs.Memory.{lacks_one, AddsBlanks, HasMade}
use Rattle.graph_change.specs.View.{patch_of, patches_of}
use Rattle.graph_change.proofs.Blocks.{get_put, value_put, either, any_range}
use Rattle.graph_change.proofs.Maps.{value_at}
use Rattle.graph_change.proofs.Pieces.{get_blocks}

-- ---- of truth values, answers and lists

pub on_err : {T E P : Type 0} (r : Result T E) → P → OnErr r P
on_err (Ok x) p = tt
on_err (Err e) p = p

-- two facts of an error together
pub on_err_both : {T E P Q R : Type 0} (r : Result T E) → OnErr r P → OnErr r Q → (P → Q → R) → OnErr r R
on_err_both (Ok x) p q both = tt
on_err_both (Err e) p q both = both p q

neither : (a b : Bool) → (a || b) ≡ false → (a ≡ false) × (b ≡ false)
neither false b h = (refl, h)
neither true b h = absurd cc

any_push : (xs : List ℕ) (n b : ℕ) → list_any (nat_eq b) (xs ++ n ∷ []) ≡ (list_any (nat_eq b) xs || (b == n))
any_push [] n b = by (b == n) where
  by : (t : Bool) → ◌≡◌ {A = Bool} (t || false) t
  by true = refl
  by false = refl
any_push (x ∷ xs) n b = ap (λ t. nat_eq b x || t) (any_push xs n b) ∙ turned (nat_eq b x) (list_any (nat_eq b) xs) (b == n) where
  turned : (p q r : Bool) → (p || (q || r)) ≡ ((p || q) || r)
  turned true q r = refl
  turned false q r = refl

pub any_in : (p : ℕ → Bool) (k a j : ℕ) → a ≤ j → j < a + k → p j ≡ true → list_any p (range_with_len a k) ≡ true
any_in p zero a j low high is = absurd (omega (arith, low, high))
any_in p (suc k) a j low high is = elim (eqb_tells j a) [
  | inl here ↦ ap (λ t. t || list_any p (range_with_len (a + 1) k)) (ap p (sym here.1) ∙ is)
  | inr off ↦ or_right (p a) (list_any p (range_with_len (a + 1) k)) (let o = off.1 in any_in p k (a + 1) j (omega (arith, low, o)) (omega (arith, high)) is)
] where
  or_right : (s t : Bool) → t ≡ true → (s || t) ≡ true
  or_right true t h = refl
  or_right false t h = h

pub range_in : (k a j : ℕ) → list_any (nat_eq j) (range_with_len a k) ≡ true → (a ≤ j) × (j < a + k)
range_in zero a j h = absurd (false≢true h)
range_in (suc k) a j h = elim (eqb_tells j a) [
  | inl here ↦ (let same = here.1 in (omega (arith, same), omega (arith, same)))
  | inr off ↦ (let rest = range_in k (a + 1) j (sym (ap (λ t. t || list_any (nat_eq j) (range_with_len (a + 1) k)) off.0) ∙ h) in (omega (arith, rest.0), omega (arith, rest.1)))
]

pub range_out : (k a j : ℕ) → list_any (nat_eq j) (range_with_len a k) ≡ false → (j < a) ⊎ (a + k ≤ j)
range_out k a j h = elim (cases_lt j a) [
  | inl low ↦ inl low
  | inr ge ↦ elim (cases_lt j (a + k)) [
    | inl inside ↦ absurd (false≢true (sym h ∙ any_range k a j ge inside))
    | inr past ↦ inr past
  ]
]

-- ---- one block

-- whether a block is there is told by the map in memory
pub has_is : (m : BTreeMap ℕ (List ℕ × List Bool)) (n : ℕ) → fin.contains_key (patches_of m) n ≡ is_some (get nat_cmp m n)
has_is m n = ap is_some (value_at patch_of m n) ∙ by (get nat_cmp m n) where
  by : (o : Option (List ℕ × List Bool)) → is_some (option_map patch_of o) ≡ is_some o
  by None = refl
  by (Some x) = refl

pub none_of : {A : Type 0} (o : Option A) → is_some o ≡ false → o ≡ None
none_of None h = refl
none_of (Some x) h = absurd cc

module _ (ps : Patches) (n : ℕ) (absent : fin.contains_key ps n ≡ false) where
  pub there_now : fin.contains_key (fin.insert ps n blank) n ≡ true
  there_now = ap is_some (get_put ps n blank n ∙ ap (λ t. cond t (Some blank) (fin.get ps n)) (eq-eqb n n refl))

  pub patches_now : (b : ℕ) → patch_at (fin.insert ps n blank) b ≡ patch_at ps b
  patches_now b = value_put blank n blank ps b ∙ elim (eqb_tells b n) [
    | inl here ↦ ap (λ t. cond t blank (patch_at ps b)) here.0 ∙ sym (ap (patch_at ps) here.1 ∙ ap (λ o. unwrap_or o blank) (none_of (fin.get ps n) absent))
    | inr off ↦ ap (λ t. cond t blank (patch_at ps b)) off.0
  ]

  pub others_now : (b : ℕ) → b ≢ n → fin.get (fin.insert ps n blank) b ≡ fin.get ps b
  others_now b other = get_put ps n blank b ∙ elim (eqb_tells b n) [
    | inl here ↦ absurd (other here.1)
    | inr off ↦ ap (λ t. cond t (Some blank) (fin.get ps b)) off.0
  ]

-- one number more is kept, of a block that was not there
pub made_more : (made : List ℕ) (n : ℕ) (old now next : Patches) → fin.contains_key now n ≡ false → ((b : ℕ) → b ≢ n → fin.get next b ≡ fin.get now b) → HasMade made old now → HasMade (made ++ n ∷ []) old next
made_more made n old now next absent same has = record {
  absent = λ b is. elim (either (list_any (nat_eq b) made)) [
    | inl before ↦ has.absent b before
    | inr new ↦ elim (eqb_tells b n) [
      | inl here ↦ sym (has.others b new) ∙ ap (fin.get now) here.1 ∙ none_of (fin.get now n) absent
      | inr off ↦ absurd (false≢true (sym (any_push made n b ∙ ap (λ t. t || (b == n)) new ∙ off.0) ∙ is))
    ]
  ];
  others = λ b is.
      let both = neither (list_any (nat_eq b) made) (b == n) (sym (any_push made n b) ∙ is) in
      elim (eqb_tells b n) [
        | inl here ↦ absurd (false≢true (sym both.1 ∙ here.0))
        | inr off ↦ same b off.1 ∙ has.others b both.0
      ];
}

pub made_none : (ps : Patches) → HasMade [] ps ps
made_none ps = record { absent = λ b is. absurd (false≢true is); others = λ b is. refl }

-- ---- all of them

-- a block that is not there is lacking among them
pub lacking : (first end n : ℕ) (ps : Patches) → first ≤ n → n < end → fin.contains_key ps n ≡ false → lacks_one (range_with_len first (end - first)) ps ≡ true
lacking first end n ps low high absent = any_in (λ b. not (fin.contains_key ps b)) (end - first) first n low (omega (arith, low, high)) (ap not absent)

-- what was made is dropped again
pub dropped : (made : List ℕ) (old now left : Patches) → HasMade made old now → ((b : ℕ) → fin.get left b ≡ cond (list_any (nat_eq b) made) None (fin.get now b)) → left ≡ old
dropped made old now left has is = fin.same_map nat_cmp_total fin.nat_cmp-IsAntisymmetric left old (λ b. is b ∙ elim (either (list_any (nat_eq b) made)) [
  | inl in_made ↦ ap (λ t. cond t None (fin.get now b)) in_made ∙ sym (has.absent b in_made)
  | inr out ↦ ap (λ t. cond t None (fin.get now b)) out ∙ has.others b out
])

-- one more block is dropped
pub dropped_more : (numbers : List ℕ) (n : ℕ) (old : Patches) (before after : BTreeMap ℕ (List ℕ × List Bool)) → Updates nat_cmp before after n None → ((b : ℕ) → fin.get (patches_of before) b ≡ cond (list_any (nat_eq b) numbers) None (fin.get old b))
    → (b : ℕ) → fin.get (patches_of after) b ≡ cond (list_any (nat_eq b) (numbers ++ n ∷ [])) None (fin.get old b)
dropped_more numbers n old before after updates so_far b =
    value_at patch_of after b ∙ ap (option_map patch_of) (updates.0 b) ∙ ap (λ t. option_map patch_of (cond t None (get nat_cmp before b))) (unsigned_tied n b)
    ∙ elim (eqb_tells n b) [
      | inl here ↦ ap (λ t. option_map patch_of (cond t None (get nat_cmp before b))) here.0 ∙ sym (last_is (eq-eqb b n (sym here.1)))
      | inr off ↦
          ap (λ t. option_map patch_of (cond t None (get nat_cmp before b))) off.0 ∙ sym (value_at patch_of before b) ∙ so_far b
          ∙ sym (ap (λ t. cond t None (fin.get old b)) (any_push numbers n b ∙ other (list_any (nat_eq b) numbers) (not_equal off.1)))
    ]
  where
    whole : (a : Bool) → (b == n) ≡ true → (a || (b == n)) ≡ true
    whole true same = refl
    whole false same = same

    last_is : (b == n) ≡ true → cond (list_any (nat_eq b) (numbers ++ n ∷ [])) None (fin.get old b) ≡ None
    last_is same = ap (λ t. cond t None (fin.get old b)) (any_push numbers n b ∙ whole (list_any (nat_eq b) numbers) same)

    not_equal : n ≢ b → (b == n) ≡ false
    not_equal off = elim (eqb_tells b n) [ inl here ↦ absurd (off (sym here.1)) | inr apart ↦ apart.0 ]

    other : (a : Bool) → (b == n) ≡ false → (a || (b == n)) ≡ a
    other true off = refl
    other false off = off

-- bytes put into blocks of which some are new and blank
pub put_over_blanks : (at : ℕ) (bytes bs : List ℕ) (old new : Patches) → AddsBlanks bs old new → put_blocks at bytes bs new ≡ put_blocks at bytes bs old
put_over_blanks at bytes bs old new adds = fin.same_map nat_cmp_total fin.nat_cmp-IsAntisymmetric _ _ (λ b.
    let put : Option Patch = Some (over_patch at bytes b (patch_at old b)) in
    get_blocks at bytes bs new b ∙ ap (λ f. cond (list_any (nat_eq b) bs) (Some (over_patch at bytes b f)) (fin.get new b)) (adds.patches b)
    ∙ elim (either (list_any (nat_eq b) bs)) [
      | inl on ↦ ap (λ t. cond t put (fin.get new b)) on ∙ sym (ap (λ t. cond t put (fin.get old b)) on)
      | inr off ↦ ap (λ t. cond t put (fin.get new b)) off ∙ adds.others b off ∙ sym (ap (λ t. cond t put (fin.get old b)) off)
    ]
    ∙ sym (get_blocks at bytes bs old b))
