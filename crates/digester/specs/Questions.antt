-- Which questions are asked, each once.
use Rattle.std.specs.Prelude.{◌≡◌, ℕ, true, false, List, [], ◌∷◌, Option, Some, None}
use Rattle.std.specs.List.{AllByRecursion}
use Rattle.update_log.specs.file_graph.Graph.{is_among}
use Rattle.shared_area.specs.record_validation.KnownNodes.{Known, is_unknown}
use Rattle.digester.specs.declared.plan_error.PlanError.{PlanError}
use Rattle.digester.specs.declared.plan_error.PlanError.TheVariants as why

-- how the last question was refused, where nothing is planned; none where memory is wanting
abbrev pub refusal_of : {E : Type 0} → PlanError E → Option E
refusal_of why.Memory = None
refusal_of (why.Nodes e) = Some e

-- each of some inodes is among others
abbrev pub AreAmong : List ℕ → List ℕ → Type 0
AreAmong is among = (i : ℕ) → is_among i is ≡ true → is_among i among ≡ true

-- no inode stands twice
abbrev pub EachOnce : List ℕ → Type 0
EachOnce [] = Unit {0}
EachOnce (i ∷ is) = (is_among i is ≡ false) × EachOnce is

module _ {S E : Type 0} (asked : S → S → List ℕ → Option E → Type 0) where
  -- questions after some of these inodes, none of them asked after twice, have led from the first to the second
  pub record AskedOnce (among : List ℕ) (first last : S) (refusal : Option E) : Type 0 where
    pub inodes : List ℕ
    pub needed : AllByRecursion (λ i. is_among i among ≡ true) inodes
    pub once : EachOnce inodes
    pub led : asked first last inodes refusal

  -- the same, each of them was answered, and what was told is known
  pub record AskedKnown (m : Known) (among : List ℕ) (first last : S) : Type 0 where
    pub inodes : List ℕ
    pub needed : AllByRecursion (λ i. is_among i among ≡ true) inodes
    pub once : EachOnce inodes
    pub known : AllByRecursion (λ i. is_unknown m i ≡ false) inodes
    pub led : asked first last inodes None
