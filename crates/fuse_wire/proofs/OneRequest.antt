-- Bytes spell one request at most.
use Rattle.std.proofs.Common.{◌≡◌, ℕ, cond, eqb, List, [], ◌∷◌, ◌++◌, drop, Option, Some, None, refl, sym, ap, ◌∙◌}
use Rattle.fuse_wire.specs.declared.opcode.Opcode.{Opcode}
use Rattle.fuse_wire.specs.declared.opcode.Opcode.TheVariants as opcode
use Rattle.fuse_wire.specs.declared.header.Header.{Header}
use Rattle.fuse_wire.specs.declared.request.Request.{Request}
use Rattle.fuse_wire.specs.declared.request.Request.TheVariants as request
use Rattle.fuse_wire.specs.Fields.{u32_at, u64_at, if_bit}
use Rattle.fuse_wire.specs.Names.{HasNoZero, behind_name, EndsWithName, EndsWithNames}
use Rattle.fuse_wire.specs.Opcodes.{opcode_of}
use Rattle.fuse_wire.specs.Spelling.{init_of, set_attr_of, SpellsBody, Spells}
use Rattle.fuse_wire.specs.Contents.{Contents, numbers, contents}
use Rattle.fuse_wire.proofs.ZeroBytes.{first_not_zero, HasNoZero-rest, behind_closed}

-- the bytes up to the first zero byte
abbrev first_name : List ℕ → List ℕ
first_name [] = []
first_name (b ∷ bytes) = cond (eqb b 0) [] (b ∷ first_name bytes)

first_closed : (name rest : List ℕ) → HasNoZero name → first_name (name ++ 0 ∷ rest) ≡ name
first_closed [] rest h = refl
first_closed (b ∷ name) rest h = rw (first_not_zero b name h) (ap (λ (t : List ℕ). b ∷ t) (first_closed name rest (HasNoZero-rest b name h)))

abbrev name_behind : Option (List ℕ) → List ℕ
name_behind None = []
name_behind (Some bytes) = first_name bytes

abbrev name_from : ℕ → List ℕ → List ℕ
name_from place body = first_name (drop place body)

abbrev second_from : ℕ → List ℕ → List ℕ
second_from place body = name_behind (behind_name (drop place body))

one : (place : ℕ) (body name : List ℕ) → EndsWithName place body name → name ≡ name_from place body
one place body name ends = sym (ap first_name ends.name ∙ first_closed name [] ends.closed)

first : (place : ℕ) (body a b : List ℕ) → EndsWithNames place body a b → a ≡ name_from place body
first place body a b ends = sym (ap first_name ends.names ∙ first_closed a (b ++ 0 ∷ []) ends.first_closed)

second : (place : ℕ) (body a b : List ℕ) → EndsWithNames place body a b → b ≡ second_from place body
second place body a b ends = sym (ap name_behind (ap behind_name ends.names ∙ behind_closed a (b ++ 0 ∷ []) ends.first_closed) ∙ first_closed b [] ends.second_closed)

-- what a body of this opcode shows
abbrev contents_in : Opcode → List ℕ → Contents
contents_in opcode.Init body = contents (request.Init (init_of body))
contents_in opcode.Lookup body = (opcode.Lookup, [], name_from 0 body ∷ [])
contents_in opcode.Forget body = (opcode.Forget, u64_at 0 body ∷ [], [])
contents_in opcode.BatchForget body = (opcode.BatchForget, [], drop 8 body ∷ [])
contents_in opcode.GetAttr body = (opcode.GetAttr, numbers (if_bit 0 (u32_at 0 body) (u64_at 8 body)), [])
contents_in opcode.SetAttr body = contents (request.SetAttr (set_attr_of body))
contents_in opcode.MkNod body = (opcode.MkNod, u32_at 0 body ∷ [], name_from 16 body ∷ [])
contents_in opcode.MkDir body = (opcode.MkDir, u32_at 0 body ∷ [], name_from 8 body ∷ [])
contents_in opcode.Unlink body = (opcode.Unlink, [], name_from 0 body ∷ [])
contents_in opcode.RmDir body = (opcode.RmDir, [], name_from 0 body ∷ [])
contents_in opcode.Rename body = (opcode.Rename, u64_at 0 body ∷ [], name_from 8 body ∷ second_from 8 body ∷ [])
contents_in opcode.Rename2 body = (opcode.Rename2, u64_at 0 body ∷ u32_at 8 body ∷ [], name_from 16 body ∷ second_from 16 body ∷ [])
contents_in opcode.Link body = (opcode.Link, u64_at 0 body ∷ [], name_from 8 body ∷ [])
contents_in opcode.Open body = (opcode.Open, u32_at 0 body ∷ [], [])
contents_in opcode.Create body = (opcode.Create, u32_at 0 body ∷ u32_at 4 body ∷ [], name_from 16 body ∷ [])
contents_in opcode.Read body = (opcode.Read, u64_at 0 body ∷ u64_at 8 body ∷ u32_at 16 body ∷ [], [])
contents_in opcode.Write body = (opcode.Write, u64_at 0 body ∷ u64_at 8 body ∷ u32_at 20 body ∷ [], drop 40 body ∷ [])
contents_in opcode.Release body = (opcode.Release, u64_at 0 body ∷ [], [])
contents_in opcode.StatFs body = (opcode.StatFs, [], [])
contents_in opcode.OpenDir body = (opcode.OpenDir, u32_at 0 body ∷ [], [])
contents_in opcode.ReadDir body = (opcode.ReadDir, u64_at 0 body ∷ u64_at 8 body ∷ u32_at 16 body ∷ [], [])
contents_in opcode.ReleaseDir body = (opcode.ReleaseDir, u64_at 0 body ∷ [], [])
contents_in opcode.Interrupt body = (opcode.Interrupt, u64_at 0 body ∷ [], [])
contents_in opcode.Flush body = (opcode.Flush, [], [])
contents_in opcode.Fsync body = (opcode.Fsync, [], [])
contents_in opcode.FsyncDir body = (opcode.FsyncDir, [], [])
contents_in opcode.Access body = (opcode.Access, [], [])
contents_in opcode.SymLink body = (opcode.SymLink, [], [])
contents_in opcode.Destroy body = (opcode.Destroy, [], [])
contents_in (opcode.Other number) body = (opcode.Other number, [], [])

contents_are : (o : Opcode) (body : List ℕ) (r : Request) → SpellsBody o body r → contents r ≡ contents_in o body
contents_are o body (request.Init init) s = rw (s.0, s.2) refl
contents_are o body (request.Lookup name) s = rw (s.0, one 0 body name.now s.1) refl
contents_are o body (request.Forget count) s = rw (s.0, s.2) refl
contents_are o body (request.BatchForget nodes) s = rw (s.0, s.2) refl
contents_are o body (request.GetAttr handle) s = rw (s.0, s.2) refl
contents_are o body (request.SetAttr changes) s = rw (s.0, s.2) refl
contents_are o body (request.MkNod name mode) s = rw (s.0, one 16 body name.now s.1, s.2) refl
contents_are o body (request.MkDir name mode) s = rw (s.0, one 8 body name.now s.1, s.2) refl
contents_are o body (request.Unlink name) s = rw (s.0, one 0 body name.now s.1) refl
contents_are o body (request.RmDir name) s = rw (s.0, one 0 body name.now s.1) refl
contents_are o body (request.Rename name folder new) s = rw (s.0, first 8 body name.now new.now s.1, second 8 body name.now new.now s.1, s.2) refl
contents_are o body (request.Rename2 name folder new flags) s = rw (s.0, first 16 body name.now new.now s.1, second 16 body name.now new.now s.1, s.2, s.3) refl
contents_are o body (request.Link node name) s = rw (s.0, one 8 body name.now s.1, s.2) refl
contents_are o body (request.Open flags) s = rw (s.0, s.2) refl
contents_are o body (request.Create name flags mode) s = rw (s.0, one 16 body name.now s.1, s.2, s.3) refl
contents_are o body (request.Read handle at size) s = rw (s.0, s.2, s.3, s.4) refl
contents_are o body (request.Write handle at flags new) s = rw (s.0, s.2, s.3, s.4, s.5) refl
contents_are o body (request.Release handle) s = rw (s.0, s.2) refl
contents_are o body request.StatFs s = rw s.0 refl
contents_are o body (request.OpenDir flags) s = rw (s.0, s.2) refl
contents_are o body (request.ReadDir handle at size) s = rw (s.0, s.2, s.3, s.4) refl
contents_are o body (request.ReleaseDir handle) s = rw (s.0, s.2) refl
contents_are o body (request.Interrupt unique) s = rw (s.0, s.2) refl
contents_are o body request.Flush s = rw s refl
contents_are o body request.Fsync s = rw s refl
contents_are o body request.FsyncDir s = rw s refl
contents_are o body request.Access s = rw s refl
contents_are o body request.SymLink s = rw s refl
contents_are o body request.Destroy s = rw s refl
contents_are o body (request.Other number) s = rw s refl

pub one_request : (bytes : List ℕ) (g h : Header) (r s : Request) → Spells bytes g r → Spells bytes h s → (g ≡ h) × (contents r ≡ contents s)
one_request bytes g h r s a b =
    let o = opcode_of (u32_at 4 bytes) in
    (a.header ∙ sym b.header, contents_are o (drop 40 bytes) r a.body ∙ sym (contents_are o (drop 40 bytes) s b.body))
