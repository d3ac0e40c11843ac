-- Who knows nothing but that the root is a directory decides no call otherwise than who knows more, and takes no memory that this one doesn't.
use Rattle.std.proofs.Common.{◌≡◌, inl, inr, ℕ, List, Bool, true, false, refl, Some, None, Option, Result, Ok, Err, cond, ap, sym, ◌∙◌, subst}
use Rattle.std.proofs.lemmas.Bool.Decides.{eqb_tells}
use Rattle.std.specs.Prelude.{◌&&◌, ◌||◌, nat_le}
use Rattle.posix_calls.specs.declared.errno.Errno.{Errno}
use Rattle.posix_calls.specs.declared.operation.Missing.TheVariants as missing
use Rattle.posix_calls.specs.declared.descriptor.Descriptor.{Descriptor}
use Rattle.posix_calls.specs.declared.call.Call.{Call}
use Rattle.posix_calls.specs.declared.call.Call.TheVariants as call
use Rattle.posix_calls.specs.declared.limits.TheConstants.{MAX_TRANSFER}
use Rattle.posix_calls.specs.Path.{path_names}
use Rattle.posix_calls.specs.FirstName.{comes_to_name}
use Rattle.posix_calls.specs.Tree.{Own}
use Rattle.posix_calls.specs.Walk.{is_root}
use Rattle.posix_calls.specs.Query.{Query, Gives, Refuses, IsDir, Look, Range}
use Rattle.posix_calls.specs.Part.{Part, Found, Known, Unknown, run_part}
use Rattle.posix_calls.specs.Memory.{takes_memory, reads_bytes, lists_root}
use Rattle.client_plan.specs.NeedOrder.{root_alone}

root_answer : (i : ℕ) (o : Option Bool) → root_alone.is_dir i ≡ Some o → (i ≡ 1) × (o ≡ Some true)
root_answer i o e = elim (eqb_tells i 1) [
  | inl same ↦ (same.1, (let is : Some (Some true) ≡ Some o = sym (ap (λ b. cond b (Some (Some true)) None) same.0) ∙ e in let this : Some true ≡ o = cc in sym this))
  | inr off ↦ absurd (let clash : None ≡ Some o = sym (ap (λ (b : Bool). cond b (Some (Some true)) None) off.0) ∙ e in cc)
]

pub words_are_known : {A : Type 0} (p : Part) → p.is_dir 1 ≡ Some (Some true) → (q : Query A) (r : Result A Errno) → run_part root_alone q ≡ Known r → run_part p q ≡ Known r
unfolding run_part
words_are_known p root (Gives x) r e = e
words_are_known p root (Refuses x) r e = e
words_are_known {A = A} p root (IsDir i next) r e =
    elim (root_alone.is_dir i) as (λ o. root_alone.is_dir i ≡ o → ◌≡◌ {A = Found A} (elim o [ None ↦ Unknown (missing.Node i) | Some a ↦ run_part root_alone (next a) ]) (Known r) → ◌≡◌ {A = Found A} (elim (p.is_dir i) [ None ↦ Unknown (missing.Node i) | Some a ↦ run_part p (next a) ]) (Known r)) [
      | None ↦ λ is lacking. absurd (cc)
      | Some a ↦ λ is known.
          let at = root_answer i a is in
          let there : p.is_dir i ≡ Some a = ap p.is_dir at.0 ∙ root ∙ ap (λ z. Some z) (sym at.1) in
          subst (λ o. ◌≡◌ {A = Found A} (elim o [ None ↦ Unknown (missing.Node i) | Some a ↦ run_part p (next a) ]) (Known r)) (sym there) (words_are_known p root (next a) r known)
    ] refl e
words_are_known p root (Look i next) r e = absurd (cc)
words_are_known p root (Range i at count next) r e = absurd (cc)

both_false : (a b : Bool) → (a && b && false) ≡ true → ⊥
both_false true true e = absurd (cc)
both_false true false e = absurd (cc)
both_false false true e = absurd (cc)
both_false false false e = absurd (cc)

no_bytes : (d : Option Descriptor) (at count : ℕ) → reads_bytes root_alone d at count ≡ true → ⊥
no_bytes None at count e = absurd (cc)
no_bytes (Some d) at count e = both_false d.reads (nat_le count MAX_TRANSFER) e

one_false : (a : Bool) → (a && false) ≡ true → ⊥
one_false true e = absurd (cc)
one_false false e = absurd (cc)

no_list : (r : Result (List (List ℕ)) Errno) → lists_root root_alone r ≡ true → ⊥
no_list (Err e) h = absurd (cc)
no_list (Ok names) h = one_false (is_root names) h

first_true : (a b c : Bool) → (b ≡ true → ⊥) → (a || b) ≡ true → (a || c) ≡ true
first_true true b c never e = refl
first_true false b c never e = absurd (never e)

-- what takes memory for its words takes it whatever is known
pub words_take_memory : (p : Part) (own : Own) (c : Call) → takes_memory root_alone own c ≡ true → takes_memory p own c ≡ true
words_take_memory p own (call.Open path flags) e = e
words_take_memory p own (call.Close number) e = e
words_take_memory p own (call.Pread number at count) e = absurd (no_bytes (own number) at count e)
words_take_memory p own (call.Pwrite number at bytes) e = e
words_take_memory p own (call.Truncate path len) e = e
words_take_memory p own (call.Mkdir path) e = e
words_take_memory p own (call.Rmdir path) e = e
words_take_memory p own (call.Link old new) e = e
words_take_memory p own (call.Unlink path) e = e
words_take_memory p own (call.Rename old new) e = e
words_take_memory p own (call.Exchange first second) e = e
words_take_memory p own (call.List path) e = first_true (comes_to_name path) (lists_root root_alone (path_names path)) (lists_root p (path_names path)) (no_list (path_names path)) e
words_take_memory p own (call.Stat path) e = e
