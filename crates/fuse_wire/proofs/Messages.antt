-- Messages that spell a request, and what is wrong with others.
use Rattle.std.proofs.Common.{◌≡◌, ℕ, ◌≤◌, cond, ltb, eqb, List, length, drop, Result, Ok, Err, refl, sym, ap, subst, ◌∙◌, arith}
use Rattle.std.specs.Prelude.{IfOk, IfErr, IsOk}
use Rattle.std.proofs.lemmas.Bool.{lt-ltb, le-ltb, ne_eqb, eq-eqb}
use Rattle.fuse_wire.specs.declared.error.WireError.{WireError}
use Rattle.fuse_wire.specs.declared.error.WireError.TheVariants.{ShortHeader, WrongLength, ShortBody, LongBody, UnclosedName, WrongCount}
use Rattle.fuse_wire.specs.declared.header.Header.{Header}
use Rattle.fuse_wire.specs.declared.request.Request.{Request}
use Rattle.fuse_wire.specs.declared.opcode.Opcode.{Opcode}
use Rattle.fuse_wire.specs.declared.layout.Body.{Body}
use Rattle.fuse_wire.specs.declared.layout.Body.TheVariants.{Named, Counted, Longer}
use Rattle.fuse_wire.specs.Fields.{u32_at}
use Rattle.fuse_wire.specs.Opcodes.{opcode_of}
use Rattle.fuse_wire.specs.Layout.{body_of}
use Rattle.fuse_wire.specs.Spelling.{IsWhole, header_of, SpellsBody, Spells}
use Rattle.fuse_wire.specs.Reasons.{IsWrongBody, IsWrong}
use Rattle.fuse_wire.proofs.Bodies.{spelled_is_laid_out, right_is_not_wrong, one_fault, fault_of}

body_is_right : (bytes : List ℕ) (h : Header) (r : Request) (e : WireError) → Spells bytes h r → IsWrongBody (body_of (opcode_of (u32_at 4 bytes))) (drop 40 bytes) e → ⊥
body_is_right bytes h r e s wrong = right_is_not_wrong (body_of (opcode_of (u32_at 4 bytes))) (drop 40 bytes) e (spelled_is_laid_out (opcode_of (u32_at 4 bytes)) (drop 40 bytes) r s.body) wrong

pub spelled_is_not_wrong : (bytes : List ℕ) (h : Header) (r : Request) (e : WireError) → Spells bytes h r → IsWrong bytes e → ⊥
spelled_is_not_wrong bytes h r ShortHeader s wrong = omega (arith, s.whole.header, wrong)
spelled_is_not_wrong bytes h r WrongLength s wrong = wrong.1 s.whole.count
spelled_is_not_wrong bytes h r ShortBody s wrong = body_is_right bytes h r ShortBody s wrong.1
spelled_is_not_wrong bytes h r LongBody s wrong = body_is_right bytes h r LongBody s wrong.1
spelled_is_not_wrong bytes h r UnclosedName s wrong = body_is_right bytes h r UnclosedName s wrong.1
spelled_is_not_wrong bytes h r WrongCount s wrong = body_is_right bytes h r WrongCount s wrong.1

abbrev body_fault : List ℕ → WireError
body_fault bytes = fault_of (body_of (opcode_of (u32_at 4 bytes))) (drop 40 bytes)

abbrev the_fault : List ℕ → WireError
the_fault bytes = cond (ltb (length bytes) 40) ShortHeader (cond (eqb (u32_at 0 bytes) (length bytes)) (body_fault bytes) WrongLength)

in_body : (bytes : List ℕ) (e : WireError) → 40 ≤ length bytes → u32_at 0 bytes ≡ length bytes → IsWrongBody (body_of (opcode_of (u32_at 4 bytes))) (drop 40 bytes) e → e ≡ the_fault bytes
in_body bytes e long count wrong = rw (le-ltb (length bytes) 40 long, eq-eqb (u32_at 0 bytes) (length bytes) count) (one_fault (body_of (opcode_of (u32_at 4 bytes))) (drop 40 bytes) e wrong)

one_fault_of : (bytes : List ℕ) (e : WireError) → IsWrong bytes e → e ≡ the_fault bytes
one_fault_of bytes ShortHeader wrong = rw (lt-ltb (length bytes) 40 wrong) refl
one_fault_of bytes WrongLength wrong = rw (le-ltb (length bytes) 40 wrong.0, ne_eqb (u32_at 0 bytes) (length bytes) wrong.1) refl
one_fault_of bytes ShortBody wrong = in_body bytes ShortBody wrong.0.header wrong.0.count wrong.1
one_fault_of bytes LongBody wrong = in_body bytes LongBody wrong.0.header wrong.0.count wrong.1
one_fault_of bytes UnclosedName wrong = in_body bytes UnclosedName wrong.0.header wrong.0.count wrong.1
one_fault_of bytes WrongCount wrong = in_body bytes WrongCount wrong.0.header wrong.0.count wrong.1

pub same_fault : (bytes : List ℕ) (e f : WireError) → IsWrong bytes e → IsWrong bytes f → e ≡ f
same_fault bytes e f one other = one_fault_of bytes e one ∙ sym (one_fault_of bytes f other)

-- ---- from the body to the message

not_of_body : (layout : Body) (body : List ℕ) → (IsWrongBody layout body ShortHeader → ⊥) × (IsWrongBody layout body WrongLength → ⊥)
not_of_body (Named n names) body = (λ w. w, λ w. w)
not_of_body (Counted n place each) body = (λ w. w, λ w. w)
not_of_body (Longer n) body = (λ w. w, λ w. w)

in_message : (bytes : List ℕ) (e : WireError) → IsWhole bytes → IsWrongBody (body_of (opcode_of (u32_at 4 bytes))) (drop 40 bytes) e → IsWrong bytes e
in_message bytes ShortHeader whole wrong = absurd ((not_of_body (body_of (opcode_of (u32_at 4 bytes))) (drop 40 bytes)).0 wrong)
in_message bytes WrongLength whole wrong = absurd ((not_of_body (body_of (opcode_of (u32_at 4 bytes))) (drop 40 bytes)).1 wrong)
in_message bytes ShortBody whole wrong = (whole, wrong)
in_message bytes LongBody whole wrong = (whole, wrong)
in_message bytes UnclosedName whole wrong = (whole, wrong)
in_message bytes WrongCount whole wrong = (whole, wrong)

header_opcode : (bytes : List ℕ) (h : Header) → h ≡ header_of bytes → h.opcode ≡ u32_at 4 bytes
unfolding header_of
header_opcode bytes h is = ap (λ (x : Header). x.opcode) is

pub message_is_wrong : (bytes : List ℕ) (h : Header) (o : Opcode) (layout : Body) (body : List ℕ) (e : WireError) → IsWhole bytes → h ≡ header_of bytes → o ≡ opcode_of h.opcode → layout ≡ body_of o → body ≡ drop 40 bytes → IsWrongBody layout body e → IsWrong bytes e
message_is_wrong bytes h o layout body e whole head is laid rest wrong =
    let number : o ≡ opcode_of (u32_at 4 bytes) = is ∙ ap opcode_of (header_opcode bytes h head) in
    in_message bytes e whole (subst (λ (l : Body). IsWrongBody l (drop 40 bytes) e) (laid ∙ ap body_of number) (subst (λ (x : List ℕ). IsWrongBody layout x e) rest wrong))

pub message_is_spelled : (bytes : List ℕ) (h : Header) (o : Opcode) (body : List ℕ) (r : Request) → IsWhole bytes → h ≡ header_of bytes → o ≡ opcode_of h.opcode → body ≡ drop 40 bytes → SpellsBody o body r → Spells bytes h r
message_is_spelled bytes h o body r whole head is rest spelled =
    let number : o ≡ opcode_of (u32_at 4 bytes) = is ∙ ap opcode_of (header_opcode bytes h head) in
    record {
      whole = whole;
      header = head;
      body = subst (λ (x : Opcode). SpellsBody x (drop 40 bytes) r) number (subst (λ (x : List ℕ). SpellsBody o x r) rest spelled);
    }

-- ---- what a reader answers

abbrev Read : Type 0
Read = Result (Header × Request) WireError

pub is_found : (bytes : List ℕ) (read : Read) → IfErr read (λ e. IsWrong bytes e) → (h : Header) (r : Request) → Spells bytes h r → IsOk read
is_found bytes (Ok x) wrong h r s = refl
is_found bytes (Err e) wrong h r s = absurd (spelled_is_not_wrong bytes h r e s wrong)

pub is_refused : (bytes : List ℕ) (read : Read) → IfOk read (λ x. Spells bytes x.0 x.1) → IfErr read (λ e. IsWrong bytes e) → (e : WireError) → IsWrong bytes e → read ≡ Err e
is_refused bytes (Ok x) right wrong e is = absurd (spelled_is_not_wrong bytes x.0 x.1 e right is)
is_refused bytes (Err f) right wrong e is = ap (λ (g : WireError). Err g) (same_fault bytes f e wrong is)
