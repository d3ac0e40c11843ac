-- What a stop leaves is told by the calls up to the tier's last fence and those after it, and is one of the contents that may be left.
use Rattle.std.proofs.Common.{◌≡◌, inl, inr, ℕ, zero, suc, ◌+◌, ◌-◌, ◌<◌, ◌≤◌, List, [], ◌∷◌, ◌++◌, length, take, drop, get_or, Bool, true, false, cond, refl, sym, ◌∙◌, ap, subst, arith, Some, append_assoc}
use Rattle.std.specs.Prelude.{slice_get, nat_le, ◌&&◌}
use native.Mathlib.Numerals.{unary_clauses}
use Rattle.std.specs.Bool.{MatchBool}
use Rattle.std.proofs.Math.Seq.{take-suc, take-nil}
use Rattle.std.proofs.lemmas.List.{take-append-drop, length-drop}
use Rattle.std.proofs.lemmas.Option.{get_or_from_slice_get}
use Rattle.std.proofs.lemmas.Bool.{cases_Bool}
use Rattle.tier_device.specs.declared.media.Tier.{Tier}
use Rattle.tier_device.specs.declared.fill.Fill.{Fill}
use Rattle.tier_device.specs.Fill.{left_bytes, left_byte, fill_at}
use Rattle.tier_device.specs.DeviceCall.{DeviceCall, Write, Fence}
use Rattle.tier_device.specs.Media.{Torn}
use Rattle.tier_device.specs.Record.{same_tier, hits, call_content, Leaves, replay_content, LeftAfter}
use Rattle.tier_device.specs.RecordLaws.{torn_overwritten, length-overwritten, length-shown, hit_fits}
use Rattle.tier_device.specs.declared.record.Entry.{Entry}
use Rattle.tier_device.specs.declared.record.Entry.TheVariants as entry
use Rattle.tier_device.specs.CallLog.{calls_of, total_len}
use Rattle.tier_device.specs.StopContent.{range_content, spoilt, spoilt_all, stop_content, NoFence, NoFenceIn}
use Rattle.tier_device.proofs.CallLogs.{calls_of-append}
use Rattle.tier_device.proofs.Grow.{same_self, not_same}

held_unfenced : (fill : Fill) (tier : Tier) (seen kept : List ℕ) (xs : List DeviceCall) → NoFence tier xs → stop_content fill tier seen kept xs ≡ spoilt_all fill tier kept xs
held_unfenced fill tier seen kept [] free = refl
held_unfenced fill tier seen kept (Write t at bytes ∷ xs) free = held_unfenced fill tier (call_content tier seen (Write t at bytes)) (spoilt fill tier kept (Write t at bytes)) xs free.1
held_unfenced fill tier seen kept (Fence t ∷ xs) free =
    let other : same_tier t tier ≡ false = not_same t tier (λ e. free.0 (ap Fence (sym e))) in
    subst (λ (b : Bool). stop_content fill tier seen (cond b seen kept) xs ≡ spoilt_all fill tier kept xs) (sym other) (held_unfenced fill tier seen kept xs free.1)

fence_of : (t tier : Tier) → Fence t ≡ Fence tier → t ≡ tier
fence_of t tier e = cc

held_fenced : (fill : Fill) (tier : Tier) (seen kept : List ℕ) (front back : List DeviceCall) → stop_content fill tier seen kept (front ++ Fence tier ∷ back) ≡ stop_content fill tier (replay_content tier seen front) (replay_content tier seen front) back
held_fenced fill tier seen kept [] back = subst (λ (b : Bool). stop_content fill tier seen (cond b seen kept) back ≡ stop_content fill tier seen seen back) (sym (same_self tier)) refl
held_fenced fill tier seen kept (Write t at bytes ∷ front) back = held_fenced fill tier (call_content tier seen (Write t at bytes)) (spoilt fill tier kept (Write t at bytes)) front back
held_fenced fill tier seen kept (Fence t ∷ front) back = held_fenced fill tier seen (cond (same_tier t tier) seen kept) front back

replayed_fence : (tier : Tier) (seen : List ℕ) (xs : List DeviceCall) → replay_content tier seen (xs ++ Fence tier ∷ []) ≡ replay_content tier seen xs
replayed_fence tier seen [] = refl
replayed_fence tier seen (x ∷ xs) = replayed_fence tier (call_content tier seen x) xs

no_fence : (tier : Tier) (es : List Entry) (w : List ℕ) → NoFenceIn tier es → NoFence tier (calls_of es w)
no_fence tier [] w free = tt
no_fence tier (entry.Write t at n ∷ es) w free = ((λ e. cc), no_fence tier es (drop n w) free.1)
no_fence tier (entry.Fence t ∷ es) w free = ((λ e. free.0 (ap entry.Fence (fence_of t tier e))), no_fence tier es (drop 0 w) free.1)

-- the calls up to the last fence are shown, and those after it spoil
pub held_cut : (fill : Fill) (tier : Tier) (first w : List ℕ) (es : List Entry) (k : ℕ) → k ≤ length es → (0 < k → slice_get es (k - 1) ≡ Some (entry.Fence tier)) → NoFenceIn tier (drop k es)
    → spoilt_all fill tier (replay_content tier first (calls_of (take k es) w)) (calls_of (drop k es) (drop (total_len (take k es)) w)) ≡ stop_content fill tier first first (calls_of es w)
held_cut fill tier first w es zero within last free = sym (held_unfenced fill tier first first (calls_of es w) (no_fence tier es w free))
held_cut fill tier first w es (suc j) within last free =
    let last_fence : slice_get es (suc j - 1) ≡ Some (entry.Fence tier) = last (omega arith) in
    let here : get_or es j (entry.Fence tier) ≡ entry.Fence tier = get_or_from_slice_get es j (entry.Fence tier) (entry.Fence tier) (simp unary_clauses at last_fence) in
    let front : take (suc j) es ≡ take j es ++ entry.Fence tier ∷ [] = take-suc es j (entry.Fence tier) (omega arith) ∙ ap (λ x. take j es ++ x ∷ []) here in
    let mine : calls_of (take (suc j) es) w ≡ calls_of (take j es) w ++ Fence tier ∷ [] = ap (λ (x : List Entry). calls_of x w) front ∙ calls_of-append (take j es) (entry.Fence tier ∷ []) w in
    let back = calls_of (drop (suc j) es) (drop (total_len (take (suc j) es)) w) in
    let whole : (calls_of (take j es) w ++ Fence tier ∷ []) ++ back ≡ calls_of es w =
    ap (λ (x : List DeviceCall). x ++ back) (sym mine) ∙ sym (calls_of-append (take (suc j) es) (drop (suc j) es) w) ∙ ap (λ (x : List Entry). calls_of x w) (take-append-drop (suc j) es) in
    let seen = replay_content tier first (calls_of (take j es) w) in
    ap (λ (l : List DeviceCall). spoilt_all fill tier (replay_content tier first l) back) mine
    ∙ ap (λ (l : List ℕ). spoilt_all fill tier l back) (replayed_fence tier first (calls_of (take j es) w))
    ∙ sym (held_unfenced fill tier seen seen back (no_fence tier (drop (suc j) es) (drop (total_len (take (suc j) es)) w) free))
    ∙ sym (held_fenced fill tier first first (calls_of (take j es) w) back)
    ∙ ap (stop_content fill tier first first) (sym (append_assoc (calls_of (take j es) w) (Fence tier ∷ []) back) ∙ whole)

pub length-left_bytes : (fill : Fill) (tier : Tier) (at : ℕ) (olds news : List ℕ) → length news ≤ length olds → length (left_bytes fill tier at olds news) ≡ length news
length-left_bytes fill tier at [] [] le = refl
length-left_bytes fill tier at [] (new ∷ news) le = absurd (omega arith)
length-left_bytes fill tier at (old ∷ olds) [] le = refl
length-left_bytes fill tier at (old ∷ olds) (new ∷ news) le = omega (arith, length-left_bytes fill tier (at + 1) olds news (omega arith))

module _ (fill : Fill) (tier : Tier) (kept : List ℕ) (at : ℕ) (bytes : List ℕ) (le : at + length bytes ≤ length kept) where
  filled : length (left_bytes fill tier at (drop at kept) bytes) ≡ length bytes
  filled = length-left_bytes fill tier at (drop at kept) bytes (omega (arith, length-drop at kept))

  within : at + length (left_bytes fill tier at (drop at kept) bytes) ≤ length kept
  within = omega (arith, filled)

  length-spoiled : length (range_content fill tier kept at bytes) ≡ length kept
  length-spoiled = length-overwritten kept at (left_bytes fill tier at (drop at kept) bytes) within

  spoiled_torn : Torn at (length bytes) kept (range_content fill tier kept at bytes)
  spoiled_torn = subst (λ (n : ℕ). Torn at n kept (range_content fill tier kept at bytes)) filled (torn_overwritten kept at (left_bytes fill tier at (drop at kept) bytes) within)

-- what a stop leaves by a fill is one of the contents that it may leave
pub held_left : (fill : Fill) (tier : Tier) (seen kept : List ℕ) (Before : List ℕ → Type 0) (xs : List DeviceCall) → length kept ≡ length seen → Before kept → LeftAfter tier seen Before xs (stop_content fill tier seen kept xs)
held_left fill tier seen kept Before [] long before = before
held_left fill tier seen kept Before (Write t at bytes ∷ xs) long before =
    let x = Write t at bytes in
    let same : hits tier kept t at bytes ≡ hits tier seen t at bytes = ap (λ (n : ℕ). same_tier t tier && nat_le (at + length bytes) n) long in
    held_left fill tier (call_content tier seen x) (spoilt fill tier kept x) (Leaves tier seen Before x) xs
    (length-spoilt_write ∙ long ∙ sym (length-shown tier seen x))
    (elim (cases_Bool (hits tier seen t at bytes)) [
      | inl is ↦
          let here : hits tier kept t at bytes ≡ true = same ∙ is in
          let torn = spoiled_torn fill tier kept at bytes (hit_fits tier kept t at bytes here) in
          subst (λ (b : Bool). MatchBool b ((d : List ℕ) × Before d × Torn at (length bytes) d (spoilt fill tier kept x)) (Before (spoilt fill tier kept x))) (sym is)
          (subst (λ (b : Bool). (d : List ℕ) × Before d × Torn at (length bytes) d (cond b (range_content fill tier kept at bytes) kept)) (sym here) (kept, before, torn))
      | inr is ↦
          let here : hits tier kept t at bytes ≡ false = same ∙ is in
          subst (λ (b : Bool). MatchBool b ((d : List ℕ) × Before d × Torn at (length bytes) d (spoilt fill tier kept x)) (Before (spoilt fill tier kept x))) (sym is)
          (subst (λ (b : Bool). Before (cond b (range_content fill tier kept at bytes) kept)) (sym here) before)
    ])
  where
    length-spoilt_write : length (spoilt fill tier kept (Write t at bytes)) ≡ length kept
    length-spoilt_write = elim (cases_Bool (hits tier kept t at bytes)) [
      | inl is ↦ subst (λ (b : Bool). length (cond b (range_content fill tier kept at bytes) kept) ≡ length kept) (sym is) (length-spoiled fill tier kept at bytes (hit_fits tier kept t at bytes is))
      | inr is ↦ subst (λ (b : Bool). length (cond b (range_content fill tier kept at bytes) kept) ≡ length kept) (sym is) refl
    ]
held_left fill tier seen kept Before (Fence t ∷ xs) long before = elim (cases_Bool (same_tier t tier)) [
  | inl is ↦
      held_left fill tier seen (cond (same_tier t tier) seen kept) (Leaves tier seen Before (Fence t)) xs (subst (λ (b : Bool). length (cond b seen kept) ≡ length seen) (sym is) refl)
      (subst (λ (b : Bool). MatchBool b (cond b seen kept ≡ seen) (Before (cond b seen kept))) (sym is) refl)
  | inr is ↦
      held_left fill tier seen (cond (same_tier t tier) seen kept) (Leaves tier seen Before (Fence t)) xs (subst (λ (b : Bool). length (cond b seen kept) ≡ length seen) (sym is) long)
      (subst (λ (b : Bool). MatchBool b (cond b seen kept ≡ seen) (Before (cond b seen kept))) (sym is) before)
]

-- only so many of the old bytes count as are written
pub left_bytes-take : (fill : Fill) (tier : Tier) (at : ℕ) (olds news : List ℕ) (n : ℕ) → n ≡ length news → left_bytes fill tier at (take n olds) news ≡ left_bytes fill tier at olds news
left_bytes-take fill tier at [] news n is = ap (λ (l : List ℕ). left_bytes fill tier at l news) (take-nil n)
left_bytes-take fill tier at (old ∷ olds) [] n is = subst (λ k. left_bytes fill tier at (take k (old ∷ olds)) [] ≡ []) (sym is) refl
left_bytes-take fill tier at (old ∷ olds) (new ∷ news) n is =
    subst (λ k. left_bytes fill tier at (take k (old ∷ olds)) (new ∷ news) ≡ left_byte (fill_at fill tier at) old new ∷ left_bytes fill tier (at + 1) olds news) (sym is)
    (ap (λ (l : List ℕ). left_byte (fill_at fill tier at) old new ∷ l) (left_bytes-take fill tier (at + 1) olds news (length news) refl))
