-- What is unknown of a node or of bytes, and that an operation's record and growth are never refused.
use Rattle.std.proofs.Common.{◌≡◌, ◌⊎◌, inl, inr, ℕ, refl, Some, None, Option, Err, Bool, true, false, cond, ap, sym, ◌∙◌, ◌==◌}
use Rattle.posix_calls.specs.declared.errno.Errno.{Errno}
use Rattle.posix_calls.specs.declared.operation.Missing.TheVariants as missing
use Rattle.posix_calls.specs.declared.operation.Operation.{Operation}
use Rattle.posix_calls.specs.declared.operation.Operation.TheVariants.{Tell, NewDir, NewFile, OpenFile, CloseFile, Write, Resize, RemoveDir, AddName, DropName, Move, Exchange}
use Rattle.posix_calls.specs.declared.operation.Replaced.TheVariants.{Nothing, OldFile, OldDir}
use Rattle.posix_calls.specs.Query.{Seen, Query, Gives, Refuses, IsDir, Look, Range, ◌>>=◌}
use Rattle.posix_calls.specs.Part.{Part, Found, Known, Unknown, IsBeyond, blocks_missing, run_part}
use Rattle.posix_calls.proofs.Parts.{missing_is_left}
use Rattle.posix_calls.specs.Walk.{entries_seen, entries_at, size_seen, size_at, names_seen}
use Rattle.call_effects.specs.Effects.{recounted_file}
use Rattle.call_effects.specs.Records.{names_if, effects_asked, growth_asked, units_asked, entry_rise}
use Rattle.client_plan.specs.NeedEffects.{AreUnread}

-- ---- what is unknown

node_beyond : {A : Type 0} (p : Part) (i : ℕ) (q : Query A) → IsBeyond p (missing.Node i) q → (p.node i ≡ None) ⊎ (p.is_dir i ≡ None)
node_beyond p i (Gives x) at = absurd at
node_beyond p i (Refuses e) at = absurd at
node_beyond p i (IsDir j next) at = let here : missing.Node j ≡ missing.Node i = at.0 in let same : j ≡ i = cc in inr (ap p.is_dir (sym same) ∙ at.1)
node_beyond p i (Look j next) at = let here : missing.Node j ≡ missing.Node i = at.0 in let same : j ≡ i = cc in inl (ap p.node (sym same) ∙ at.1)
node_beyond p i (Range j from many next) at = absurd (let clash : blocks_missing j from many ≡ missing.Node i = at.0 in cc)

pub node_unknown : {A : Type 0} (p : Part) (q : Query A) (i : ℕ) → run_part p q ≡ Unknown (missing.Node i) → (p.node i ≡ None) ⊎ (p.is_dir i ≡ None)
node_unknown p q i e = let left = missing_is_left p q (missing.Node i) e in node_beyond p i left.rest left.beyond

bytes_beyond : {A : Type 0} (p : Part) (i first count : ℕ) (q : Query A) → IsBeyond p (missing.Blocks i first count) q → AreUnread p i first count
bytes_beyond p i first count (Gives x) at = absurd at
bytes_beyond p i first count (Refuses e) at = absurd at
bytes_beyond p i first count (IsDir j next) at = absurd (let clash : missing.Node j ≡ missing.Blocks i first count = at.0 in cc)
bytes_beyond p i first count (Look j next) at = absurd (let clash : missing.Node j ≡ missing.Blocks i first count = at.0 in cc)
bytes_beyond p i first count (Range j from many next) at =
    let here : blocks_missing j from many ≡ missing.Blocks i first count = at.0 in
    let same : j ≡ i = cc in
    record { at = from; bytes = many; touches = ap (λ n. blocks_missing n from many) (sym same) ∙ here; unknown = ap (λ n. p.bytes n from many) (sym same) ∙ at.1 }

pub bytes_unknown : {A : Type 0} (p : Part) (q : Query A) (i first count : ℕ) → run_part p q ≡ Unknown (missing.Blocks i first count) → AreUnread p i first count
bytes_unknown p q i first count e = let left = missing_is_left p q (missing.Blocks i first count) e in bytes_beyond p i first count left.rest left.beyond

-- ---- a look, and nothing else, refuses nothing

gives_all : {A : Type 0} (p : Part) (x : A) (r : Errno) → run_part p (Gives x) ≡ Known (Err r) → ⊥
unfolding run_part
gives_all p x r e = absurd (cc)

look_gives : {A : Type 0} (p : Part) (i : ℕ) (f : Option Seen → A) (r : Errno) → run_part p (Look i (λ s. Gives (f s))) ≡ Known (Err r) → ⊥
unfolding run_part
look_gives {A = A} p i f r e =
    elim (p.node i) as (λ o. ◌≡◌ {A = Found A} (elim o [ None ↦ Unknown (missing.Node i) | Some a ↦ run_part p (Gives (f a)) ]) (Known (Err r)) → ⊥) [
      | None ↦ λ h. absurd (cc)
      | Some a ↦ λ h. absurd (cc)
    ] e

-- what follows a look with never error gives too
bind_gives_all : {A B : Type 0} (p : Part) (q : Query A) (g : A → B) (r : Errno) → ((s : Errno) → run_part p q ≡ Known (Err s) → ⊥) → run_part p (q >>= (λ x. Gives (g x))) ≡ Known (Err r) → ⊥
unfolding run_part ◌>>=◌
bind_gives_all p (Gives x) g r never e = absurd (cc)
bind_gives_all p (Refuses s) g r never e = never s refl
bind_gives_all {A = A} {B = B} p (IsDir i next) g r never e =
    elim (p.is_dir i) as (λ o. ((s : Errno) → ◌≡◌ {A = Found A} (elim o [ None ↦ Unknown (missing.Node i) | Some a ↦ run_part p (next a) ]) (Known (Err s)) → ⊥) → ◌≡◌ {A = Found B} (elim o [ None ↦ Unknown (missing.Node i) | Some a ↦ run_part p (next a >>= (λ x. Gives (g x))) ]) (Known (Err r)) → ⊥) [
      | None ↦ λ none h. absurd (cc)
      | Some a ↦ λ none h. bind_gives_all p (next a) g r none h
    ] never e
bind_gives_all {A = A} {B = B} p (Look i next) g r never e =
    elim (p.node i) as (λ o. ((s : Errno) → ◌≡◌ {A = Found A} (elim o [ None ↦ Unknown (missing.Node i) | Some a ↦ run_part p (next a) ]) (Known (Err s)) → ⊥) → ◌≡◌ {A = Found B} (elim o [ None ↦ Unknown (missing.Node i) | Some a ↦ run_part p (next a >>= (λ x. Gives (g x))) ]) (Known (Err r)) → ⊥) [
      | None ↦ λ none h. absurd (cc)
      | Some a ↦ λ none h. bind_gives_all p (next a) g r none h
    ] never e
bind_gives_all {A = A} {B = B} p (Range i at count next) g r never e =
    elim (p.bytes i at count) as (λ o. ((s : Errno) → ◌≡◌ {A = Found A} (elim o [ None ↦ Unknown (blocks_missing i at count) | Some a ↦ run_part p (next a) ]) (Known (Err s)) → ⊥) → ◌≡◌ {A = Found B} (elim o [ None ↦ Unknown (blocks_missing i at count) | Some a ↦ run_part p (next a >>= (λ x. Gives (g x))) ]) (Known (Err r)) → ⊥) [
      | None ↦ λ none h. absurd (cc)
      | Some a ↦ λ none h. bind_gives_all p (next a) g r none h
    ] never e

module _ (p : Part) where
  names_never : (o : Option ℕ) (r : Errno) → run_part p (names_if o) ≡ Known (Err r) → ⊥
  names_never None r e = gives_all p 0 r e
  names_never (Some i) r e = look_gives p i names_seen r e

  pub effects_never_refused : (new : ℕ) (operation : Operation) (r : Errno) → run_part p (effects_asked new operation) ≡ Known (Err r) → ⊥
  effects_never_refused new operation r e = bind_gives_all p (names_if (recounted_file operation)) _ r (names_never (recounted_file operation)) e

  rise_never : (dir : ℕ) (r : Errno) → run_part p (entry_rise dir) ≡ Known (Err r) → ⊥
  rise_never dir r e = bind_gives_all p (entries_at dir) _ r (look_gives p dir entries_seen) e

  moved_never : (b : Bool) (dir : ℕ) (r : Errno) → run_part p (cond b (Gives 0) (entry_rise dir)) ≡ Known (Err r) → ⊥
  moved_never true dir r e = gives_all p 0 r e
  moved_never false dir r e = rise_never dir r e

  growth_never : (operation : Operation) (r : Errno) → run_part p (growth_asked operation) ≡ Known (Err r) → ⊥
  growth_never (Tell answer) r e = gives_all p 0 r e
  growth_never (NewDir at) r e = bind_gives_all p (entry_rise at.parent) _ r (rise_never at.parent) e
  growth_never (NewFile at number reads writes) r e = bind_gives_all p (entry_rise at.parent) _ r (rise_never at.parent) e
  growth_never (OpenFile i empties number reads writes) r e = gives_all p 0 r e
  growth_never (CloseFile i number) r e = gives_all p 0 r e
  growth_never (Write i at bytes) r e = bind_gives_all p (size_at i) _ r (look_gives p i size_seen) e
  growth_never (Resize i len) r e = bind_gives_all p (size_at i) _ r (look_gives p i size_seen) e
  growth_never (RemoveDir at i) r e = gives_all p 0 r e
  growth_never (AddName at i) r e = rise_never at.parent r e
  growth_never (DropName at i) r e = gives_all p 0 r e
  growth_never (Move from to i is_dir Nothing) r e = moved_never (from.parent == to.parent) to.parent r e
  growth_never (Move from to i is_dir (OldFile j)) r e = gives_all p 0 r e
  growth_never (Move from to i is_dir (OldDir j)) r e = gives_all p 0 r e
  growth_never (Exchange first second i j) r e = gives_all p 0 r e

  pub units_never_refused : (operation : Operation) (r : Errno) → run_part p (units_asked operation) ≡ Known (Err r) → ⊥
  units_never_refused operation r e = bind_gives_all p (growth_asked operation) _ r (growth_never operation) e
