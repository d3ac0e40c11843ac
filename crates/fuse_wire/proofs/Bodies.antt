-- Bodies that are laid out as their opcode says, and what is wrong with others.
use Rattle.std.proofs.Common.{◌≡◌, ℕ, cond, ltb, List, [], ◌∷◌, ◌++◌, length, drop, Option, Some, None, refl, sym, ap, ◌∙◌, arith, length-append, length-drop}
use Rattle.std.proofs.lemmas.Bool.{lt-ltb, le-ltb}
use Rattle.std.proofs.lemmas.List.{nil_from_length}
use Rattle.fuse_wire.specs.declared.error.WireError.{WireError}
use Rattle.fuse_wire.specs.declared.error.WireError.TheVariants.{ShortBody, LongBody, UnclosedName, WrongCount}
use Rattle.fuse_wire.specs.declared.layout.Body.{Body}
use Rattle.fuse_wire.specs.declared.layout.Body.TheVariants.{Named, Counted, Longer}
use Rattle.fuse_wire.specs.declared.opcode.Opcode.{Opcode}
use Rattle.fuse_wire.specs.declared.request.Request.{Request}
use Rattle.fuse_wire.specs.declared.request.Request.TheVariants as request
use Rattle.fuse_wire.specs.Names.{behind_name, behind_next, behind_names, EndsWithName, EndsWithNames}
use Rattle.fuse_wire.specs.Layout.{body_of, IsLaidOut}
use Rattle.fuse_wire.specs.Spelling.{SpellsBody}
use Rattle.fuse_wire.specs.Reasons.{HasSome, IsWrongBody}
use Rattle.fuse_wire.proofs.ZeroBytes.{behind_closed}

-- ---- a body that is spelled is laid out so

-- fields and nothing behind them
pub fields_alone : (n : ℕ) (body : List ℕ) → length body ≡ n → IsLaidOut (Named n 0) body
fields_alone n body long = (omega arith, ap (λ (rest : List ℕ). Some rest) (nil_from_length (drop n body) (omega (arith, length-drop n body))))

pub ends_at_fields : (n : ℕ) (body : List ℕ) → IsLaidOut (Named n 0) body → length body ≡ n
ends_at_fields n body laid =
    let none : drop n body ≡ [] = cc (laid.1) in
    omega (arith, length-drop n body, ap length none)

one_name : (n : ℕ) (body name : List ℕ) → EndsWithName n body name → IsLaidOut (Named n 1) body
one_name n body name ends =
    (omega (arith, length-drop n body, ap length ends.name, length-append name (0 ∷ [])), ap behind_name ends.name ∙ behind_closed name [] ends.closed)

two_names : (n : ℕ) (body first second : List ℕ) → EndsWithNames n body first second → IsLaidOut (Named n 2) body
two_names n body first second ends =
    let front : behind_name (drop n body) ≡ Some (second ++ 0 ∷ []) = ap behind_name ends.names ∙ behind_closed first (second ++ 0 ∷ []) ends.first_closed in
    (omega (arith, length-drop n body, ap length ends.names, length-append first (0 ∷ (second ++ 0 ∷ []))), ap behind_next front ∙ behind_closed second [] ends.second_closed)

pub spelled_is_laid_out : (o : Opcode) (body : List ℕ) (r : Request) → SpellsBody o body r → IsLaidOut (body_of o) body
spelled_is_laid_out o body (request.Init init) s = rw s.0 s.1
spelled_is_laid_out o body (request.Lookup name) s = rw s.0 (one_name 0 body name.now s.1)
spelled_is_laid_out o body (request.Forget count) s = rw s.0 (fields_alone 8 body s.1)
spelled_is_laid_out o body (request.BatchForget nodes) s = rw s.0 (omega (arith, s.1), s.1)
spelled_is_laid_out o body (request.GetAttr handle) s = rw s.0 (fields_alone 16 body s.1)
spelled_is_laid_out o body (request.SetAttr changes) s = rw s.0 (fields_alone 88 body s.1)
spelled_is_laid_out o body (request.MkNod name mode) s = rw s.0 (one_name 16 body name.now s.1)
spelled_is_laid_out o body (request.MkDir name mode) s = rw s.0 (one_name 8 body name.now s.1)
spelled_is_laid_out o body (request.Unlink name) s = rw s.0 (one_name 0 body name.now s.1)
spelled_is_laid_out o body (request.RmDir name) s = rw s.0 (one_name 0 body name.now s.1)
spelled_is_laid_out o body (request.Rename name folder new) s = rw s.0 (two_names 8 body name.now new.now s.1)
spelled_is_laid_out o body (request.Rename2 name folder new flags) s = rw s.0 (two_names 16 body name.now new.now s.1)
spelled_is_laid_out o body (request.Link node name) s = rw s.0 (one_name 8 body name.now s.1)
spelled_is_laid_out o body (request.Open flags) s = rw s.0 (fields_alone 8 body s.1)
spelled_is_laid_out o body (request.Create name flags mode) s = rw s.0 (one_name 16 body name.now s.1)
spelled_is_laid_out o body (request.Read handle at size) s = rw s.0 (fields_alone 40 body s.1)
spelled_is_laid_out o body (request.Write handle at flags new) s = rw s.0 (omega (arith, s.1), omega (arith, s.1))
spelled_is_laid_out o body (request.Release handle) s = rw s.0 (fields_alone 24 body s.1)
spelled_is_laid_out o body request.StatFs s = rw s.0 (fields_alone 0 body s.1)
spelled_is_laid_out o body (request.OpenDir flags) s = rw s.0 (fields_alone 8 body s.1)
spelled_is_laid_out o body (request.ReadDir handle at size) s = rw s.0 (fields_alone 40 body s.1)
spelled_is_laid_out o body (request.ReleaseDir handle) s = rw s.0 (fields_alone 24 body s.1)
spelled_is_laid_out o body (request.Interrupt unique) s = rw s.0 (fields_alone 8 body s.1)
spelled_is_laid_out o body request.Flush s = rw s (omega arith)
spelled_is_laid_out o body request.Fsync s = rw s (omega arith)
spelled_is_laid_out o body request.FsyncDir s = rw s (omega arith)
spelled_is_laid_out o body request.Access s = rw s (omega arith)
spelled_is_laid_out o body request.SymLink s = rw s (omega arith)
spelled_is_laid_out o body request.Destroy s = rw s (omega arith)
spelled_is_laid_out o body (request.Other number) s = rw s (omega arith)

-- ---- with such a body nothing is wrong

none_is_some : (read : Option (List ℕ)) → read ≡ Some [] → HasSome read → ⊥
none_is_some (Some bytes) e some =
    let none : bytes ≡ [] = cc in
    omega (arith, some, ap length none)
none_is_some None e some = some

pub right_is_not_wrong : (layout : Body) (body : List ℕ) (e : WireError) → IsLaidOut layout body → IsWrongBody layout body e → ⊥
right_is_not_wrong (Named n names) body ShortBody right wrong = omega (arith, right.0, wrong)
right_is_not_wrong (Named n names) body UnclosedName right wrong =
    let bad : Some [] ≡ None = sym right.1 ∙ wrong.1 in
    absurd cc
right_is_not_wrong (Named n names) body LongBody right wrong = none_is_some (behind_names names (drop n body)) right.1 wrong.1
right_is_not_wrong (Counted n place each) body ShortBody right wrong = omega (arith, right.0, wrong)
right_is_not_wrong (Counted n place each) body WrongCount right wrong = wrong.1 right.1
right_is_not_wrong (Longer n) body ShortBody right wrong = omega (arith, right, wrong)
right_is_not_wrong layout body e right wrong = wrong

-- ---- only one thing is wrong

abbrev pub kind_of : Option (List ℕ) → WireError
kind_of None = UnclosedName
kind_of (Some bytes) = LongBody

abbrev pub fault_of : Body → List ℕ → WireError
fault_of (Named n names) body = cond (ltb (length body) n) ShortBody (kind_of (behind_names names (drop n body)))
fault_of (Counted n place each) body = cond (ltb (length body) n) ShortBody WrongCount
fault_of (Longer n) body = ShortBody

long_kind : (read : Option (List ℕ)) → HasSome read → LongBody ≡ kind_of read
long_kind (Some bytes) some = refl
long_kind None some = absurd some

pub one_fault : (layout : Body) (body : List ℕ) (e : WireError) → IsWrongBody layout body e → e ≡ fault_of layout body
one_fault (Named n names) body ShortBody wrong = rw (lt-ltb (length body) n wrong) refl
one_fault (Named n names) body UnclosedName wrong = rw (le-ltb (length body) n wrong.0, wrong.1) refl
one_fault (Named n names) body LongBody wrong = rw (le-ltb (length body) n wrong.0) (long_kind (behind_names names (drop n body)) wrong.1)
one_fault (Counted n place each) body ShortBody wrong = rw (lt-ltb (length body) n wrong) refl
one_fault (Counted n place each) body WrongCount wrong = rw (le-ltb (length body) n wrong.0) refl
one_fault (Longer n) body ShortBody wrong = refl
one_fault layout body e wrong = absurd wrong
