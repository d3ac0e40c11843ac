-- The calls of a log that grows, and of its parts.
use Rattle.std.proofs.Common.{◌≡◌, ℕ, ◌+◌, ◌≤◌, List, [], ◌∷◌, ◌++◌, length, drop, refl, sym, ◌∙◌, ap, arith, length-append}
use Rattle.std.proofs.lemmas.List.{take-append-le, drop-append-le, drop_at, drop-drop, length-drop}
use Rattle.tier_device.specs.declared.record.Entry.{Entry}
use Rattle.tier_device.specs.declared.record.Entry.TheVariants as entry
use Rattle.tier_device.specs.DeviceCall.{DeviceCall, Write}
use Rattle.tier_device.specs.CallLog.{len_of, call_of, calls_of, total_len}

pub total_len-append : (es fs : List Entry) → total_len (es ++ fs) ≡ total_len es + total_len fs
total_len-append [] fs = omega arith
total_len-append (e ∷ es) fs = omega (arith, total_len-append es fs)

call_of_more : (e : Entry) (w b : List ℕ) → len_of e ≤ length w → call_of e (w ++ b) ≡ call_of e w
call_of_more (entry.Write t at n) w b le = ap (Write t at) (take-append-le n w b le)
call_of_more (entry.Fence t) w b le = refl

-- bytes behind those of the calls change nothing
calls_of_more : (es : List Entry) (w b : List ℕ) → total_len es ≤ length w → calls_of es (w ++ b) ≡ calls_of es w
calls_of_more [] w b le = refl
calls_of_more (e ∷ es) w b le =
    let rest : calls_of es (drop (len_of e) (w ++ b)) ≡ calls_of es (drop (len_of e) w) =
    ap (calls_of es) (drop-append-le (len_of e) w b (omega arith)) ∙ calls_of_more es (drop (len_of e) w) b (omega (arith, length-drop (len_of e) w)) in
    ap (λ x. x ∷ calls_of es (drop (len_of e) (w ++ b))) (call_of_more e w b (omega arith)) ∙ ap (λ (xs : List DeviceCall). call_of e w ∷ xs) rest

-- the calls of the later entries take the bytes behind those of the earlier ones
pub calls_of-append : (es fs : List Entry) (w : List ℕ) → calls_of (es ++ fs) w ≡ calls_of es w ++ calls_of fs (drop (total_len es) w)
calls_of-append [] fs w = refl
calls_of-append (e ∷ es) fs w =
    ap (λ (xs : List DeviceCall). call_of e w ∷ xs)
    (calls_of-append es fs (drop (len_of e) w) ∙ ap (λ (x : List ℕ). calls_of es (drop (len_of e) w) ++ calls_of fs x) (drop-drop (total_len es) (len_of e) w ∙ ap (λ n. drop n w) (omega arith)))

module _ (es es' : List Entry) (w w' : List ℕ) (whole : total_len es ≡ length w) where
  -- an entry whose bytes join the row
  pub pushed : (e : Entry) (b : List ℕ) → es' ≡ es ++ e ∷ [] → w' ≡ w ++ b → len_of e ≡ length b → calls_of es' w' ≡ calls_of es w ++ call_of e b ∷ []
  pushed e b grown more long =
      let last : drop (total_len es) (w ++ b) ≡ b = drop_at w b (total_len es) (sym whole) in
      ap (λ (x : List Entry). calls_of x w') grown ∙ ap (calls_of (es ++ e ∷ [])) more ∙ calls_of-append es (e ∷ []) (w ++ b)
      ∙ ap (λ (xs : List DeviceCall). xs ++ calls_of (e ∷ []) (drop (total_len es) (w ++ b))) (calls_of_more es w b (omega (arith, whole)))
      ∙ ap (λ (x : List ℕ). calls_of es w ++ calls_of (e ∷ []) x) last

  pub pushed_len : (e : Entry) (b : List ℕ) → es' ≡ es ++ e ∷ [] → w' ≡ w ++ b → len_of e ≡ length b → total_len es' ≡ length w'
  pushed_len e b grown more long =
      omega (arith, ap total_len grown, ap length more, total_len-append es (e ∷ []), length-append w b, whole)
