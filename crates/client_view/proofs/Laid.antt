-- Records laid over a block of a graph's file come to the block that it has after them.
use Rattle.std.proofs.Common.{◌≡◌, ℕ, ◌*◌, Bool, true, false, cond, List, [], ◌∷◌, take, Option, Some, None, refl, ap, sym, ◌∙◌, subst}
use Rattle.std.specs.Prelude.{option_map, unwrap_or}
use Rattle.std.specs.FinMap as fin
use Rattle.std.proofs.Math.Seq.{drop-nil}
use Rattle.posix_calls.specs.Content.{Entries, with_length, with_bytes}
use Rattle.posix_calls.specs.declared.limits.TheConstants.{UNIT_BYTES}
use Rattle.client_plan.specs.file_graph.Graph.{Graph, Node, FileBody, DirBody, acted_all, acted_graph, after_effect, after_effects, child_at, exchanged_entries, file_bytes, in_directory, in_file, is_among, subject_after, subjects, with_body}
use Rattle.client_plan.specs.file_graph.declared.effect.Effect.{Effect}
use Rattle.client_plan.specs.file_graph.declared.effect.Effect.TheVariants as effect
use Rattle.client_plan.specs.file_graph.declared.effect.Kind.{Kind}
use Rattle.client_plan.specs.file_graph.declared.effect.Kind.TheVariants as kind
use Rattle.client_plan.specs.log_record.declared.format.Record.{Record}
use Rattle.client_plan.specs.call_effects.Blocks.{block_acted, block_after, block_of, block_resized, block_written}
use Rattle.client_plan.proofs.call_effects_lemmas.Blocks.{resized_block, written_block}
use Rattle.world_invariant.specs.Logs.{after_records}
use Rattle.client_view.specs.After.{block_laid, bytes_at}

-- where a file stands, this is its block
abbrev IsTold : ℕ → Option Node → Option (List ℕ) → Type 0
IsTold b o block = (bytes : List ℕ) → file_bytes o ≡ Some bytes → block ≡ Some (block_of b bytes)

entries_keep : (f : Entries (ℕ × Kind) → Entries (ℕ × Kind)) (o : Option Node) → file_bytes (option_map (with_body (in_directory f)) o) ≡ file_bytes o
entries_keep f None = refl
entries_keep f (Some n) = elim (n.body) as (λ y. file_bytes (Some (with_body (in_directory f) (record { names = n.names; body = y }))) ≡ file_bytes (Some (record { names = n.names; body = y }))) [ FileBody bytes ↦ refl | DirBody es ↦ refl ]

names_keep : (m : ℕ) (o : Option Node) → file_bytes (option_map (λ (x : Node). let y : Node = record { names = m; body = x.body } in y) o) ≡ file_bytes o
names_keep m None = refl
names_keep m (Some n) = elim (n.body) as (λ y. file_bytes (Some (record { names = m; body = y })) ≡ file_bytes (Some (record { names = n.names; body = y }))) [ FileBody bytes ↦ refl | DirBody es ↦ refl ]

-- bytes that were changed, as they were before
before : (f : List ℕ → List ℕ) (o : Option Node) (bytes : List ℕ) → file_bytes (option_map (with_body (in_file f)) o) ≡ Some bytes → (old : List ℕ) × (file_bytes o ≡ Some old) × (f old ≡ bytes)
before f None bytes is = absurd (cc)
before f (Some n) bytes is = elim (n.body) as (λ y. file_bytes (Some (with_body (in_file f) (record { names = n.names; body = y }))) ≡ Some bytes → (old : List ℕ) × (file_bytes (Some (record { names = n.names; body = y })) ≡ Some old) × (f old ≡ bytes)) [
  | FileBody old ↦ λ e. let same : f old ≡ bytes = cc in (old, refl, same)
  | DirBody es ↦ λ e. absurd (cc)
] is

changed : (f h : List ℕ → List ℕ) (b : ℕ) → ((bytes : List ℕ) → block_of b (f bytes) ≡ h (block_of b bytes)) → (o : Option Node) (block : Option (List ℕ)) → IsTold b o block → IsTold b (option_map (with_body (in_file f)) o) (option_map h block)
changed f h b acts o block told bytes is =
    let was = before f o bytes is in
    ap (option_map h) (told was.0 was.1) ∙ ap (λ x. Some x) (sym (acts was.0)) ∙ ap (λ xs. Some (block_of b xs)) was.2

told_acted : (e : Effect) (b : ℕ) (o : Option Node) (block : Option (List ℕ)) → IsTold b o block → IsTold b (subject_after e o) (block_acted e b block)
told_acted (effect.Make i kind.File) b o block told bytes is =
    let none : [] ≡ bytes = cc in
    sym (ap (λ xs. Some (take UNIT_BYTES xs)) (drop-nil (UNIT_BYTES * b))) ∙ ap (λ xs. Some (block_of b xs)) none
told_acted (effect.Make i kind.Directory) b o block told bytes is = absurd (cc)
told_acted (effect.Enter d i k name) b o block told bytes is = told bytes (sym (entries_keep (λ es. fin.insert es name (i, k)) o) ∙ is)
told_acted (effect.Leave d name) b o block told bytes is = told bytes (sym (entries_keep (λ es. fin.remove es name) o) ∙ is)
told_acted (effect.Names i m) b o block told bytes is = told bytes (sym (names_keep m o) ∙ is)
told_acted (effect.Size i size) b o block told bytes is = changed (with_length size) (block_resized size b) b (resized_block b size) o block told bytes is
told_acted (effect.Bytes i at new) b o block told bytes is = changed (with_bytes at new) (block_written at new b) b (written_block b at new) o block told bytes is
told_acted (effect.Drop i) b o block told bytes is = absurd (cc)
told_acted (effect.Swap d a e x) b o block told bytes is = told bytes is

told_if : (t : Bool) (e : Effect) (b : ℕ) (o : Option Node) (block : Option (List ℕ)) → IsTold b o block → IsTold b (cond t (subject_after e o) o) (cond t (block_acted e b block) block)
told_if true e b o block told = told_acted e b o block told
told_if false e b o block told = told

told_entered : (t : Bool) (d c : ℕ) (k : Kind) (name : List ℕ) (b : ℕ) (o : Option Node) (block : Option (List ℕ)) → IsTold b o block → IsTold b (cond t (subject_after (effect.Enter d c k name) o) o) block
told_entered true d c k name b o block told = told_acted (effect.Enter d c k name) b o block told
told_entered false d c k name b o block told = told

-- a Swap enters names, and changes no bytes
told_exchanged : (g : Graph) (d : ℕ) (a : List ℕ) (e : ℕ) (n : List ℕ) (x y : Option (ℕ × Kind)) (i b : ℕ) (block : Option (List ℕ)) → IsTold b (g i) block → IsTold b (acted_all g (exchanged_entries d a e n x y) i) block
told_exchanged g d a e n (Some x) (Some y) i b block told =
    let first = effect.Enter d y.0 y.1 a in
    told_entered (is_among i (e ∷ [])) e x.0 x.1 n b (acted_graph g first i) block (told_entered (is_among i (d ∷ [])) d y.0 y.1 a b (g i) block told)
told_exchanged g d a e n (Some x) None i b block told = told
told_exchanged g d a e n None y i b block told = told

same_block : (t : Bool) (block : Option (List ℕ)) → block ≡ cond t block block
same_block true block = refl
same_block false block = refl

told_effect : (e : Effect) (g : Graph) (i b : ℕ) (block : Option (List ℕ)) → IsTold b (g i) block → IsTold b (after_effect g e i) (cond (is_among i (subjects e)) (block_acted e b block) block)
told_effect (effect.Swap d a e n) g i b block told =
    subst (IsTold b (after_effect g (effect.Swap d a e n) i)) (same_block (is_among i (d ∷ e ∷ [])) block) (told_exchanged g d a e n (child_at g d a) (child_at g e n) i b block told)
told_effect e g i b block told = told_if (is_among i (subjects e)) e b (g i) block told

told_effects : (es : List Effect) (g : Graph) (i b : ℕ) (block : Option (List ℕ)) → IsTold b (g i) block → IsTold b (after_effects g es i) (block_after es i b block)
told_effects [] g i b block told = told
told_effects (e ∷ es) g i b block told =
    told_effects es (after_effect g e) i b (cond (is_among i (subjects e)) (block_acted e b block) block) (told_effect e g i b block told)

told_records : (rs : List Record) (g : Graph) (i b : ℕ) (block : Option (List ℕ)) → IsTold b (g i) block → IsTold b (after_records g rs i) (block_laid rs i b block)
told_records [] g i b block told = told
told_records (r ∷ rs) g i b block told =
    told_records rs (after_effects g r.effects) i b (block_after r.effects i b block) (told_effects r.effects g i b block told)

pub block_is : (g : Graph) (rs : List Record) (i b : ℕ) (bytes : List ℕ) → file_bytes (after_records g rs i) ≡ Some bytes → block_laid rs i b (Some (block_of b (bytes_at g i))) ≡ Some (block_of b bytes)
block_is g rs i b bytes is = told_records rs g i b (Some (block_of b (bytes_at g i))) (λ old at. ap (λ (o : Option (List ℕ)). Some (block_of b (unwrap_or o []))) at) bytes is
