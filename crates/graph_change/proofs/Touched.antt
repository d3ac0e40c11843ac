-- No inode and no block changes that the effects leave alone.
use Rattle.std.proofs.Common.{◌≡◌, ◌⊎◌, inl, inr, ℕ, ◌+◌, ◌*◌, ◌/◌, ◌%◌, ◌==◌, cond, Bool, true, false, List, [], ◌∷◌, length, refl, Some, None, Option, ap, sym, ◌∙◌, min, arith}
use Rattle.std.specs.Prelude.{◌||◌, ◌&&◌, is_some, nat_eq, nat_lt}
use Rattle.std.specs.List.{list_any}
use Rattle.std.specs.Ordering.{nat_cmp}
use Rattle.std.specs.FinMap as fin
use Rattle.std.proofs.lemmas.Bool.{cases_lt, false≢true}
use Rattle.std.proofs.lemmas.Bool.Decides.{eqb_tells}
use Rattle.posix_calls.specs.declared.limits.TheConstants.{UNIT_BYTES}
use Rattle.file_graph.specs.declared.effect.Effect.{Effect}
use Rattle.file_graph.specs.declared.effect.Effect.TheVariants as effect
use Rattle.graph_change.specs.Bytes.{Length, Grown, Cut, grown_to, sized_to}
use Rattle.graph_change.specs.Net.{Base, Kept, Made, Gone}
use Rattle.graph_change.specs.Change.{Patch, Patches, Change, Changes, Coalesces, subject, span, over_patch, patch_at, put_block, put_blocks, cut_patch, cut_patches, new_change, change_after, change_at, with_effect, with_effects, coalesced_changes, ends_within, cuts_within, writes_block, touches_block, changes_inode, changes_block}
use Rattle.graph_change.proofs.Blocks.{get_put, get_begun, begun}
use Rattle.graph_change.proofs.Law.{change_put, empty_at, coalesced_law}

-- ---- of truth values

pub or_left : (a b : Bool) → a ≡ true → (a || b) ≡ true
or_left a b h = ap (λ x. x || b) h

pub or_right : (a b : Bool) → b ≡ true → (a || b) ≡ true
or_right true b h = refl
or_right false b h = h

pub or_cases : (a b : Bool) → (a || b) ≡ true → (a ≡ true) ⊎ (b ≡ true)
or_cases true b h = inl refl
or_cases false b h = inr h

-- ---- what is in a map after one was put

has_put : {A : Type 0} (m : fin.FinMap nat_cmp A) (i : ℕ) (a : A) (j : ℕ) → fin.contains_key (fin.insert m i a) j ≡ true → ((j == i) ≡ true) ⊎ (fin.contains_key m j ≡ true)
has_put m i a j h =
    elim (eqb_tells j i) [
      | inl here ↦ inl here.0
      | inr off ↦ inr (sym (ap is_some (get_put m i a j ∙ ap (λ t. cond t (Some a) (fin.get m j)) off.0)) ∙ h)
    ]

-- the keys of a map after one was put
pub key_put : {A : Type 0} (m : fin.FinMap nat_cmp A) (i : ℕ) (a : A) (j : ℕ) → fin.contains_key (fin.insert m i a) j ≡ ((j == i) || fin.contains_key m j)
key_put m i a j = ap is_some (get_put m i a j) ∙ some_either (j == i) a (fin.get m j)
  where
    some_either : {A : Type 0} (t : Bool) (a : A) (o : Option A) → is_some (cond t (Some a) o) ≡ (t || is_some o)
    some_either true a o = refl
    some_either false a o = refl

or_turned : (a b c : Bool) → ((a || b) || c) ≡ (b || (a || c))
or_turned true true c = refl
or_turned true false c = refl
or_turned false true c = refl
or_turned false false c = refl

or_nothing : (a : Bool) → a ≡ (a || false)
or_nothing true = refl
or_nothing false = refl

-- ---- one effect, one block

pub put_has : (at : ℕ) (bytes : List ℕ) (bs : List ℕ) (ps : Patches) (b : ℕ) → fin.contains_key (put_blocks at bytes bs ps) b ≡ true → (fin.contains_key ps b || list_any (nat_eq b) bs) ≡ true
put_has at bytes [] ps b h = or_left (fin.contains_key ps b) false h
put_has at bytes (x ∷ bs) ps b h =
    elim (or_cases (fin.contains_key (put_block at bytes x ps) b) (list_any (nat_eq b) bs) (put_has at bytes bs (put_block at bytes x ps) b h)) [
      | inl put ↦ elim (has_put ps x (over_patch at bytes x (patch_at ps x)) b put) [
        | inl here ↦ or_right (fin.contains_key ps b) (nat_eq b x || list_any (nat_eq b) bs) (or_left (nat_eq b x) (list_any (nat_eq b) bs) here)
        | inr old ↦ or_left (fin.contains_key ps b) (list_any (nat_eq b) (x ∷ bs)) old
      ]
      | inr rest ↦ or_right (fin.contains_key ps b) (nat_eq b x || list_any (nat_eq b) bs) (or_right (nat_eq b x) (list_any (nat_eq b) bs) rest)
    ]

begun_has : (n : ℕ) (ps : Patches) (b : ℕ) → fin.contains_key (begun n ps) b ≡ true → fin.contains_key ps b ≡ true
begun_has n ps b h = kept_some (nat_lt (UNIT_BYTES * b) n) (fin.get ps b) (sym (ap is_some (get_begun n ps b)) ∙ h)
  where
    kept_some : (t : Bool) (o : Option Patch) → is_some (cond t o None) ≡ true → is_some o ≡ true
    kept_some true o e = e
    kept_some false o e = absurd (false≢true e)

pub last_has : (n : ℕ) (ps : Patches) (o : Option Patch) (b : ℕ) → fin.get ps (n / UNIT_BYTES) ≡ o → fin.contains_key (elim o [ None ↦ ps | Some old ↦ fin.insert ps (n / UNIT_BYTES) (cut_patch (n % UNIT_BYTES) old) ]) b ≡ true → fin.contains_key ps b ≡ true
last_has n ps None b is h = h
last_has n ps (Some old) b is h =
    elim (eqb_tells b (n / UNIT_BYTES)) [
      | inl here ↦ ap (λ k. fin.contains_key ps k) here.1 ∙ ap is_some is
      | inr off ↦ elim (has_put ps (n / UNIT_BYTES) (cut_patch (n % UNIT_BYTES) old) b h) [ inl here ↦ absurd (false≢true (sym off.0 ∙ here)) | inr there ↦ there ]
    ]

cut_has : (n : ℕ) (ps : Patches) (b : ℕ) → fin.contains_key (cut_patches n ps) b ≡ true → fin.contains_key ps b ≡ true
cut_has n ps b h = begun_has n ps b (last_has n (begun n ps) (fin.get (begun n ps) (n / UNIT_BYTES)) b refl h)

min_either : (a b c : ℕ) → ends_within (min a b) c ≡ true → (ends_within a c || ends_within b c) ≡ true
min_either a b c h =
    elim (cases_lt a b) [
      | inl low ↦ let e : min a b ≡ a = omega arith in or_left (ends_within a c) (ends_within b c) (sym (ap (λ k. ends_within k c) e) ∙ h)
      | inr high ↦ let e : min a b ≡ b = omega arith in or_right (ends_within a c) (ends_within b c) (sym (ap (λ k. ends_within k c) e) ∙ h)
    ]

sized_cuts : (n : ℕ) (l : Length) (b : ℕ) → cuts_within (sized_to n l) b ≡ true → (cuts_within l b || ends_within n b) ≡ true
sized_cuts n (Grown to) b h = h
sized_cuts n (Cut least to) b h = min_either least n b h

grown_cuts : (n : ℕ) (l : Length) (b : ℕ) → cuts_within (grown_to n l) b ≡ cuts_within l b
grown_cuts n (Grown to) b = refl
grown_cuts n (Cut least to) b = refl

pub nothing_written : (base : Base) (b : ℕ) → writes_block (new_change base) b ≡ false
nothing_written base b = ap (λ o. is_some o || false) (fin.get-empty nat_cmp b)

one_effect : (e : Effect) (c : Change) (b : ℕ) → writes_block (change_after e c) b ≡ true → (writes_block c b || touches_block e b) ≡ true
one_effect (effect.Make i k) c b h = absurd (false≢true (sym (nothing_written (Made k) b) ∙ h))
one_effect (effect.Enter d i k name) c b h = or_left (writes_block c b) false h
one_effect (effect.Leave d name) c b h = or_left (writes_block c b) false h
one_effect (effect.Names i n) c b h = or_left (writes_block c b) false h
one_effect (effect.Size i size) c b h =
    elim (or_cases (fin.contains_key (cut_patches size c.patches) b) (cuts_within (sized_to size c.length) b) h) [
      | inl put ↦ or_left (writes_block c b) (ends_within size b) (or_left (fin.contains_key c.patches b) (cuts_within c.length b) (cut_has size c.patches b put))
      | inr cut ↦ elim (or_cases (cuts_within c.length b) (ends_within size b) (sized_cuts size c.length b cut)) [
        | inl old ↦ or_left (writes_block c b) (ends_within size b) (or_right (fin.contains_key c.patches b) (cuts_within c.length b) old)
        | inr new ↦ or_right (writes_block c b) (ends_within size b) new
      ]
    ]
one_effect (effect.Bytes i at bytes) c b h =
    let bs = span at (length bytes) in
    elim (or_cases (fin.contains_key (put_blocks at bytes bs c.patches) b) (cuts_within (grown_to (at + length bytes) c.length) b) h) [
      | inl put ↦ elim (or_cases (fin.contains_key c.patches b) (list_any (nat_eq b) bs) (put_has at bytes bs c.patches b put)) [
        | inl old ↦ or_left (writes_block c b) (list_any (nat_eq b) bs) (or_left (fin.contains_key c.patches b) (cuts_within c.length b) old)
        | inr new ↦ or_right (writes_block c b) (list_any (nat_eq b) bs) new
      ]
      | inr cut ↦ or_left (writes_block c b) (list_any (nat_eq b) bs) (or_right (fin.contains_key c.patches b) (cuts_within c.length b) (sym (grown_cuts (at + length bytes) c.length b) ∙ cut))
    ]
one_effect (effect.Drop i) c b h = absurd (false≢true (sym (nothing_written Gone b) ∙ h))
one_effect (effect.Swap d a e f) c b h = or_left (writes_block c b) false h

-- ---- many effects

pub with_has : (es : List Effect) (cs : Changes) (i : ℕ) → fin.contains_key (with_effects cs es) i ≡ (fin.contains_key cs i || changes_inode es i)
with_has [] cs i = or_nothing (fin.contains_key cs i)
with_has (e ∷ es) cs i =
    with_has es (with_effect e cs) i
    ∙ ap (λ t. t || changes_inode es i) (key_put cs (subject e) (change_after e (change_at cs (subject e))) i)
    ∙ or_turned (i == subject e) (fin.contains_key cs i) (changes_inode es i)

and_right : (a b : Bool) → a ≡ true → b ≡ true → (a && b) ≡ true
and_right a b h k = ap (λ x. x && b) h ∙ k

block_there : (e : Effect) (cs : Changes) (i b : ℕ) → writes_block (change_at (with_effect e cs) i) b ≡ true → (writes_block (change_at cs i) b ≡ true) ⊎ ((i == subject e && touches_block e b) ≡ true)
block_there e cs i b h =
    let s = subject e in
    let c = change_after e (change_at cs s) in
    elim (eqb_tells i s) [
      | inl here ↦
          elim (or_cases (writes_block (change_at cs s) b) (touches_block e b)
          (one_effect e (change_at cs s) b (sym (ap (λ x. writes_block x b) (change_put e cs i ∙ ap (λ t. cond t c (change_at cs i)) here.0)) ∙ h))) [
            | inl old ↦ inl (ap (λ k. writes_block (change_at cs k) b) here.1 ∙ old)
            | inr new ↦ inr (and_right (i == s) (touches_block e b) here.0 new)
          ]
      | inr off ↦ inl (sym (ap (λ x. writes_block x b) (change_put e cs i ∙ ap (λ t. cond t c (change_at cs i)) off.0)) ∙ h)
    ]

pub with_blocks : (es : List Effect) (cs : Changes) (i b : ℕ) → writes_block (change_at (with_effects cs es) i) b ≡ true → (writes_block (change_at cs i) b || changes_block es i b) ≡ true
with_blocks [] cs i b h = or_left (writes_block (change_at cs i) b) false h
with_blocks (e ∷ es) cs i b h =
    let here = i == subject e && touches_block e b in
    elim (or_cases (writes_block (change_at (with_effect e cs) i) b) (changes_block es i b) (with_blocks es (with_effect e cs) i b h)) [
      | inl one ↦ elim (block_there e cs i b one) [
        | inl old ↦ or_left (writes_block (change_at cs i) b) (changes_block (e ∷ es) i b) old
        | inr new ↦ or_right (writes_block (change_at cs i) b) (here || changes_block es i b) (or_left here (changes_block es i b) new)
      ]
      | inr rest ↦ or_right (writes_block (change_at cs i) b) (here || changes_block es i b) (or_right here (changes_block es i b) rest)
    ]

pub coalesces : (es : List Effect) → Coalesces es (coalesced_changes es)
coalesces es = record {
  meaning = coalesced_law es;
  inodes = λ i. with_has es fin.empty i ∙ ap (λ o. is_some o || changes_inode es i) (fin.get-empty nat_cmp i);
  blocks = λ i b h. sym (ap (λ t. t || changes_block es i b) (ap (λ c. writes_block c b) (empty_at i) ∙ nothing_written Kept b)) ∙ with_blocks es fin.empty i b h;
}
