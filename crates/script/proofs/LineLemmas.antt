-- What stands in front of what is left.
use Rattle.std.proofs.Common.{◌≡◌, ◌≢◌, ℕ, suc, ◌+◌, slice_index, arith, ◌<◌, ◌≤◌, List, [], ◌∷◌, ◌++◌, Bool, None, Some, IfSome, Option, length, take, drop, inl, inr, sym, ap, subst, ◌∙◌, append_assoc, append-nil, length-append, length-take-le, take-take}
use Rattle.std.proofs.Math.Seq.{take-suc}
use Rattle.std.proofs.lemmas.List.Elements.{All-append}
use Rattle.std.proofs.KnownBytes.{starts_with_rest, Consumes-trans}
use Rattle.std.specs.Io.{StartsWith}
use Rattle.std.specs.Io.KnownBytes.{Consumes}
use Rattle.script.specs.declared.script.part.TheConstants.{MAX_LINE}
use Rattle.script.specs.declared.script.part.End.TheVariants.{Open, Newline, Input, TooLong}
use Rattle.script.specs.LineReads.{IsWithinLine, LosesLine, BeginsTooLong}
use Rattle.script.specs.Parts.{Adds}

-- a front of what stands in front stands in front
pub StartsWith-take : (bytes shown : List ℕ) (n : ℕ) → n ≤ length shown → StartsWith bytes shown → StartsWith bytes (take n shown)
StartsWith-take bytes shown n within front =
    ap (λ k. take k bytes) (length-take-le n shown within)
    ∙ sym (take-take n (length shown) bytes within) ∙ ap (take n) front

pub shown_front : (old : Option (List ℕ)) (shown : List ℕ) (n : ℕ) → n ≤ length shown → IfSome old (λ bytes. StartsWith bytes shown) → IfSome old (λ bytes. StartsWith bytes (take n shown))
shown_front None shown n within front = tt
shown_front (Some bytes) shown n within front = StartsWith-take bytes shown n within front

-- a line that is too long
pub begins_too_long : (a b c : Option (List ℕ)) (done after : List ℕ) → IsWithinLine done → Consumes a b done → Adds b c done after TooLong → BeginsTooLong a
begins_too_long None b c done after within consumed (part, more, long, front) = tt
begins_too_long (Some x) None c done after within consumed (part, more, long, front) = absurd consumed
begins_too_long (Some x) (Some y) c done after within consumed (part, more, long, front) = (
  done ++ part,
  drop (length part) y,
  consumed ∙ ap (λ l. done ++ l) (starts_with_rest y part front) ∙ sym (append_assoc done part (drop (length part) y)),
  All-append (λ b. b ≢ 10) done part within more,
  subst (λ n. MAX_LINE < n) (sym (length-append done part)) long,
)

-- a part of a line behind what was read of it
pub line_grows : (a b c : Option (List ℕ)) (done after : List ℕ) → IsWithinLine done → Consumes a b done → Adds b c done after Open → IsWithinLine after × Consumes a c after
line_grows a b c done after within consumed (part, is, more, taken) = (
  subst IsWithinLine (sym is) (All-append (λ b. b ≢ 10) done part within more),
  subst (Consumes a c) (sym is) (Consumes-trans a b c done part consumed taken),
)

-- the last part of a line, and its newline
pub line_ends : (a b c : Option (List ℕ)) (done after : List ℕ) (is_more : Bool) → IsWithinLine done → Consumes a b done → Adds b c done after (Newline is_more) → LosesLine a c after
line_ends a b c done after is_more within consumed (part, is, more, taken) =
    let all = Consumes-trans a b c done (part ++ 10 ∷ []) consumed taken in (
      subst IsWithinLine (sym is) (All-append (λ b. b ≢ 10) done part within more),
      inl (subst (λ l. Consumes a c (l ++ 10 ∷ [])) (sym is) (subst (Consumes a c) (sym (append_assoc done part (10 ∷ []))) all)),
    )

-- a line that the input ends
pub line_is_last : (a b c : Option (List ℕ)) (done after : List ℕ) → IsWithinLine done → Consumes a b done → Adds b c done after Input → 0 < length after → LosesLine a c after
line_is_last None b c done after within consumed (same, left) some = (subst IsWithinLine (sym same) within, inl tt)
line_is_last (Some x) None c done after within consumed (same, left) some = absurd consumed
line_is_last (Some x) (Some y) c done after within consumed (same, (none, gone)) some = (
  subst IsWithinLine (sym same) within,
  inr (some, (consumed ∙ ap (λ l. done ++ l) none ∙ append-nil done ∙ sym same, gone)),
)

-- a newline behind the first bytes
pub newline_behind : (shown : List ℕ) (len : ℕ) → len < length shown → slice_index shown len ≡ 10 → take (len + 1) shown ≡ take len shown ++ 10 ∷ []
newline_behind shown len within newline =
    let one_more : len + 1 ≡ suc len = omega arith in
    ap (λ n. take n shown) one_more ∙ take-suc shown len 0 within ∙ ap (λ b. take len shown ++ b ∷ []) newline
