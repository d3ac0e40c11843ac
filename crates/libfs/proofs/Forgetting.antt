-- Blocks are forgotten, one record after the other.
use Rattle.std.proofs.Common.{◌≡◌, ℕ, ◌+◌, ◌<◌, ◌≤◌, List, [], length, take, get_or, refl, ap, sym, ◌∙◌}
use Rattle.std.specs.Prelude.{◌||◌}
use Rattle.std.proofs.lemmas.List.{take_all}
use Rattle.std.proofs.lemmas.List.Folds.{list_any_more}
use Rattle.lease_manager.specs.log_record.declared.format.Record.{Record}
use Rattle.client_log.specs.call_effects.Knowledge.{Knowledge}
use Rattle.block_cache.specs.CacheList.{Block}
use Rattle.client_view.specs.KnowledgeChanges.{without_blocks_at}
use Rattle.client_view.specs.AfterRecord.{without_touched}
use Rattle.client_view.proofs.ForgottenBlocks.{both_gone, none_gone, same_gone}
use Rattle.client_view.proofs.LeftBlocks.{apart_twice, none_apart, same_apart}
use Rattle.lease_manager.specs.RecordCounts.{is_touched}
use Rattle.libfs.specs.RegionSeal.{is_named, without_blocks_of, without_named}

-- one record more names what the others do, and what it touches
named_more : (rs : List Record) (n : ℕ) (r : Record) → n < length rs → r ≡ get_or rs n r → (i : ℕ) → (is_named (take n rs) i || is_touched r.effects i) ≡ is_named (take (n + 1) rs) i
named_more rs n r inside is i = sym (list_any_more (λ (x : Record). is_touched x.effects i) rs n r inside ∙ ap (λ (x : Record). is_named (take n rs) i || is_touched x.effects i) (sym is))

-- ---- what is known of them

pub of_none : (k : Knowledge) → k ≡ without_blocks_of k []
of_none k = none_gone k (λ i. is_named [] i) (λ i. refl)

pub of_next : (k mid new : Knowledge) (rs : List Record) (n : ℕ) (r : Record) → n < length rs → r ≡ get_or rs n r → mid ≡ without_blocks_of k (take n rs) → new ≡ without_blocks_at mid r.effects → new ≡ without_blocks_of k (take (n + 1) rs)
of_next k mid new rs n r inside is so_far one =
    one
    ∙ ap (λ (x : Knowledge). without_blocks_at x r.effects) so_far
    ∙ both_gone k (λ i. is_named (take n rs) i) (λ i. is_touched r.effects i)
    ∙ same_gone k (λ i. is_named (take n rs) i || is_touched r.effects i) (λ i. is_named (take (n + 1) rs) i) (named_more rs n r inside is)

pub of_all : (k new : Knowledge) (rs : List Record) (n : ℕ) → length rs ≤ n → new ≡ without_blocks_of k (take n rs) → new ≡ without_blocks_of k rs
of_all k new rs n done is = is ∙ ap (without_blocks_of k) (take_all n rs done)

-- ---- the others in the cache

pub left_none : (bs : List Block) → bs ≡ without_named bs []
left_none bs = sym (none_apart (λ i. is_named [] i) (λ i. refl) bs)

pub left_next : (bs mid new : List Block) (rs : List Record) (n : ℕ) (r : Record) → n < length rs → r ≡ get_or rs n r → mid ≡ without_named bs (take n rs) → new ≡ without_touched mid r.effects → new ≡ without_named bs (take (n + 1) rs)
left_next bs mid new rs n r inside is so_far one =
    one
    ∙ ap (λ xs. without_touched xs r.effects) so_far
    ∙ apart_twice (λ i. is_named (take n rs) i) (λ i. is_touched r.effects i) bs
    ∙ same_apart (λ i. is_named (take n rs) i || is_touched r.effects i) (λ i. is_named (take (n + 1) rs) i) (named_more rs n r inside is) bs

pub left_all : (bs new : List Block) (rs : List Record) (n : ℕ) → length rs ≤ n → new ≡ without_named bs (take n rs) → new ≡ without_named bs rs
left_all bs new rs n done is = is ∙ ap (without_named bs) (take_all n rs done)
