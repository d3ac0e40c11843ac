-- A whole with files put back that are gone from it.
use Rattle.std.proofs.Common.{◌≡◌, inl, inr, ℕ, Some, None, ap, sym, ◌∙◌}
use Rattle.posix_calls.specs.Content.{Entries}
use Rattle.log_record.specs.file_graph.Graph.{Graph, Node}
use Rattle.log_record.specs.file_graph.declared.effect.Kind.{Kind}
use Rattle.log_record.specs.file_graph.declared.effect.Kind.TheVariants as kind
use Rattle.call_effects.specs.Wholes.{kind_of}
use Rattle.call_effects.specs.Knowledge.{IsPutBack}
use Rattle.call_effects.proofs.Changes.{dir}

-- what stands in the whole stands there
pub stands_back : (g back : Graph) → IsPutBack g back → (i : ℕ) (n : Node) → g i ≡ Some n → back i ≡ Some n
stands_back g back put_back i n is = elim (put_back i) [
  | inl same ↦ same ∙ is
  | inr gone ↦ absurd (let clash : None ≡ Some n = sym gone.nothing ∙ is in cc)
]

-- and a directory that stands there stands in the whole
pub dir_stood : (g back : Graph) → IsPutBack g back → (i n : ℕ) (es : Entries (ℕ × Kind)) → back i ≡ dir n es → g i ≡ dir n es
dir_stood g back put_back i n es is = elim (put_back i) [
  | inl same ↦ sym same ∙ is
  | inr gone ↦ absurd (let clash : Some kind.File ≡ Some kind.Directory = ap kind_of (sym gone.file ∙ is) in cc)
]
