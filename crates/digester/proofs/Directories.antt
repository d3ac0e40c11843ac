-- Directories of a graph that are read one after the other.
use Rattle.std.proofs.Common.{◌≡◌, ◌<◌, ◌+◌, ◌++◌, ◌||◌, ◌==◌, inl, inr, ℕ, cond, Bool, true, false, List, [], ◌∷◌, length, take, get_or, Option, Some, None, refl, ap, sym, subst, ◌∙◌}
use Rattle.std.specs.Prelude.{IsSome, is_some, map}
use Rattle.std.proofs.lemmas.Bool.{false≢true}
use Rattle.std.proofs.lemmas.Bool.Decides.{eqb_tells}
use Rattle.std.proofs.lemmas.List.{append-nil, append_assoc, map-append}
use Rattle.posix_calls.specs.Content.{Entries}
use Rattle.update_log.specs.file_graph.declared.effect.Kind.{Kind}
use Rattle.update_log.specs.file_graph.declared.effect.Effect.{Effect}
use Rattle.update_log.specs.file_graph.Graph.{Graph, Node, DirBody, is_among, set_node, directory_in, swap_places, swapped_directories}
use Rattle.coalescer.proofs.Entered.{places_joined}
use Rattle.coalescer.proofs.Folds.{take_next}
use Rattle.digester.specs.Directories.{HasDirectories}
use Rattle.digester.proofs.Known.{among_joined, one_of}

pub none_read : (g : Graph) → HasDirectories g [] (λ i. None)
none_read g = record { each = λ i some. absurd (false≢true some); alike = λ j among. absurd (false≢true among) }

-- ---- one directory more

either : (b c : Bool) (P : Type 0) → (b || c) ≡ true → (b ≡ true → P) → (c ≡ true → P) → P
either true c P h first second = first refl
either false c P h first second = second h

-- where the same directory stands at an inode already
pub one_alike : (g : Graph) (is : List ℕ) (read : Graph) (i : ℕ) → HasDirectories g is read → directory_in (read i) ≡ directory_in (g i) → HasDirectories g (is ++ i ∷ []) read
one_alike g is read i has same = record {
  each = has.each;
  alike = λ j among. either (is_among j is) (is_among j (i ∷ [])) (directory_in (read j) ≡ directory_in (g j)) (sym (among_joined j is (i ∷ [])) ∙ among) (has.alike j)
      (λ last. subst (λ k. directory_in (read k) ≡ directory_in (g k)) (one_of j i last) same);
}

pub one_there : (g : Graph) (is : List ℕ) (read : Graph) (i : ℕ) → HasDirectories g is read → IsSome (read i) → HasDirectories g (is ++ i ∷ []) read
one_there g is read i has some = one_alike g is read i has (has.each i some)

pub one_none : (g : Graph) (is : List ℕ) (read : Graph) (i : ℕ) → HasDirectories g is read → read i ≡ None → directory_in (g i) ≡ None → HasDirectories g (is ++ i ∷ []) read
one_none g is read i has none nowhere = one_alike g is read i has (ap directory_in none ∙ sym nowhere)

-- one is put there
module _ (g : Graph) (is : List ℕ) (read new : Graph) (i names : ℕ) (entries : Entries (ℕ × Kind)) (has : HasDirectories g is read) (put : new ≡ set_node read i (Some (record { names = names; body = DirBody entries }))) (there : directory_in (g i) ≡ Some entries) where
  abbrev node : Option Node
  node = Some (record { names = names; body = DirBody entries })

  other : (j : ℕ) → (j == i) ≡ false → new j ≡ read j
  other j off = ap (λ (h : Graph). h j) put ∙ ap (λ b. cond b node (read j)) off

  here_is : (j : ℕ) → (j == i) ≡ true → j ≡ i → directory_in (new j) ≡ directory_in (g j)
  here_is j here same = ap (λ (h : Graph). directory_in (h j)) put ∙ ap (λ b. directory_in (cond b node (read j))) here ∙ sym (ap (λ k. directory_in (g k)) same ∙ there)

  each_put : (j : ℕ) → IsSome (new j) → directory_in (new j) ≡ directory_in (g j)
  each_put j some = elim (eqb_tells j i) [
    | inl here ↦ here_is j here.0 here.1
    | inr off ↦ (let same = other j off.0 in ap directory_in same ∙ has.each j (ap is_some (sym same) ∙ some))
  ]

  alike_put : (j : ℕ) → is_among j is ≡ true → directory_in (new j) ≡ directory_in (g j)
  alike_put j among = elim (eqb_tells j i) [
    | inl here ↦ here_is j here.0 here.1
    | inr off ↦ ap directory_in (other j off.0) ∙ has.alike j among
  ]

  pub one_put : HasDirectories g (is ++ i ∷ []) new
  one_put = elim (eqb_tells i i) [
    | inl here ↦ one_alike g is new i (record { each = each_put; alike = alike_put }) (here_is i here.0 refl)
    | inr off ↦ absurd (off.1 refl)
  ]

-- ---- those of a Swap

pub both_read : (g : Graph) (is : List ℕ) (d e : ℕ) (read : Graph) → HasDirectories g ((is ++ d ∷ []) ++ e ∷ []) read → HasDirectories g (is ++ d ∷ e ∷ []) read
both_read g is d e read has = subst (λ js. HasDirectories g js read) (append_assoc is (d ∷ []) (e ∷ [])) has

-- of another effect there are none
pub none_more : (g : Graph) (is js : List ℕ) (read : Graph) → js ≡ [] → HasDirectories g is read → HasDirectories g (is ++ js) read
none_more g is js read none has = subst (λ ks. HasDirectories g ks read) (sym (ap (λ ks. is ++ ks) none ∙ append-nil is)) has

-- ---- those of effects

-- with the next effect of a list
pub next_read : (g : Graph) (es : List Effect) (k : ℕ) (e : Effect) (read : Graph) → k < length es → e ≡ get_or es k e → HasDirectories g (swapped_directories (take k es) ++ swapped_directories (e ∷ [])) read → HasDirectories g (swapped_directories (take (k + 1) es)) read
next_read g es k e read lt is has =
    let joined : swapped_directories (take (k + 1) es) ≡ swapped_directories (take k es) ++ swapped_directories (e ∷ []) =
    ap swapped_directories (take_next es k e lt ∙ ap (λ x. take k es ++ x ∷ []) (sym is))
    ∙ ap (map (λ (p : ℕ × List ℕ). p.0)) (places_joined (take k es) (e ∷ []))
    ∙ map-append (λ (p : ℕ × List ℕ). p.0) (swap_places (take k es)) (swap_places (e ∷ [])) in
    subst (λ js. HasDirectories g js read) (sym joined) has
