-- A reply of several parts.
use Rattle.std.proofs.Common.{◌≡◌, ℕ, ◌+◌, ◌++◌, List, [], length, length-append, append_assoc, arith, ap, subst, sym, ◌∙◌, ◌^◌, ◌-◌, Result}
use Rattle.std.specs.Prelude.{OnOk}
use Rattle.std.proofs.lemmas.List.{append-nil}
use Rattle.fuse_wire.specs.Fields.{u32, u64, fields_bytes}
use Rattle.fuse_wire.specs.Replies.{header_fields, reply_bytes, error_bytes}

-- the header, number by number, behind nothing
pub begun : (len error unique : ℕ) (o o1 o2 o3 : List ℕ) → o1 ≡ o ++ u32 len → o2 ≡ o1 ++ u32 error → o3 ≡ o2 ++ u64 unique → o ≡ [] → o3 ≡ fields_bytes (header_fields len error unique)
begun len error unique o o1 o2 o3 e1 e2 e3 nothing =
    let flat : (u32 len ++ u32 error) ++ u64 unique ≡ fields_bytes (header_fields len error unique) = simp (append_assoc, append-nil) in
    e3 ∙ rw (e2, e1, nothing) flat

-- a reply of a header and a body
pub with_body : (unique len : ℕ) (body o1 o2 : List ℕ) → len ≡ length body → o1 ≡ fields_bytes (header_fields (16 + len) 0 unique) → o2 ≡ o1 ++ body → o2 ≡ reply_bytes unique body
unfolding reply_bytes
with_body unique len body o1 o2 long head written =
    written ∙ ap (λ (t : List ℕ). t ++ body) head ∙ ap (λ (n : ℕ). fields_bytes (header_fields (16 + n) 0 unique) ++ body) long

-- the same reply by another name of its body
pub renamed : {T E : Type 0} (r : Result T E) (unique : ℕ) (items x y : List ℕ) → x ≡ y → OnOk r (items ≡ reply_bytes unique x) → OnOk r (items ≡ reply_bytes unique y)
renamed r unique items x y same written = subst (λ (t : List ℕ). OnOk r (items ≡ reply_bytes unique t)) same written

-- the error, as a number below zero in four bytes
pub renamed_error : {T E : Type 0} (r : Result T E) (unique number error : ℕ) (items : List ℕ) → error ≡ 2 ^ 32 - number → OnOk r (items ≡ fields_bytes (header_fields 16 error unique)) → OnOk r (items ≡ error_bytes unique number)
unfolding error_bytes
renamed_error r unique number error items same written = subst (λ (e : ℕ). OnOk r (items ≡ fields_bytes (header_fields 16 e unique))) same written

pub parts_of_reply : (unique len : ℕ) (f m b : List ℕ) → len ≡ length f + length m + length b → ((fields_bytes (header_fields (16 + len) 0 unique) ++ f) ++ m) ++ b ≡ reply_bytes unique ((f ++ m) ++ b)
unfolding reply_bytes
parts_of_reply unique len f m b long =
    let same : len ≡ length ((f ++ m) ++ b) = omega (arith, long, length-append (f ++ m) b, length-append f m) in
    let h : List ℕ = fields_bytes (header_fields (16 + len) 0 unique) in
    append_assoc (h ++ f) m b ∙ append_assoc h f (m ++ b) ∙ ap (λ (t : List ℕ). h ++ t) (sym (append_assoc f m b)) ∙ ap (λ (n : ℕ). fields_bytes (header_fields (16 + n) 0 unique) ++ ((f ++ m) ++ b)) same

pub all_parts : (unique len : ℕ) (f m b o1 o2 o3 o4 : List ℕ) → len ≡ length f + length m + length b → o1 ≡ fields_bytes (header_fields (16 + len) 0 unique) → o2 ≡ o1 ++ f → o3 ≡ o2 ++ m → o4 ≡ o3 ++ b → o4 ≡ reply_bytes unique ((f ++ m) ++ b)
all_parts unique len f m b o1 o2 o3 o4 long e1 e2 e3 e4 =
    e4 ∙ ap (λ (t : List ℕ). t ++ b) (e3 ∙ ap (λ (t : List ℕ). t ++ m) (e2 ∙ ap (λ (t : List ℕ). t ++ f) e1)) ∙ parts_of_reply unique len f m b long

-- parts that are empty
pub one_part : (f : List ℕ) → (f ++ []) ++ [] ≡ f
one_part f = append-nil (f ++ []) ∙ append-nil f

pub two_parts : (f m : List ℕ) → (f ++ m) ++ [] ≡ f ++ m
two_parts f m = append-nil (f ++ m)
