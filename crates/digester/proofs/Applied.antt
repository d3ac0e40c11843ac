-- What good records of one chunk come to is a change that one batch of the shared media takes.
use Rattle.std.proofs.Common.{◌≡◌, ◌⊎◌, inl, inr, ℕ, ◌+◌, ◌<◌, ◌≤◌, ◌||◌, Bool, true, false, List, [], ◌∷◌, ◌++◌, Option, Some, None, length, refl, ap, sym, ◌∙◌, subst, arith}
use Rattle.std.specs.Prelude.{is_some, option_map, nat_le, unwrap_or}
use Rattle.std.specs.List.{AllByRecursion}
use Rattle.std.specs.FinMap as fin
use Rattle.std.proofs.lemmas.Bool.{false≢true, and_parts, and_from, leb-true, le-leb}
use Rattle.posix_calls.specs.declared.limits.TheConstants.{MAX_FILE, MAX_INODE, MAX_NAMES}
use Rattle.update_log.specs.file_graph.declared.effect.Effect.{Effect}
use Rattle.update_log.specs.file_graph.declared.effect.Effect.TheVariants as effect
use Rattle.update_log.specs.file_graph.Graph.{Graph, after_effects, touches, is_among, swap_places, entered_places}
use Rattle.update_log.specs.file_graph.Numbers.{is_inode}
use Rattle.update_log.specs.file_graph.Units.{charge}
use Rattle.update_log.proofs.file_graph_lemmas.Touches.{untouched}
use Rattle.coalescer.specs.graph_change.Bounds.{is_bounded, AreBounded}
use Rattle.coalescer.specs.graph_change.Change.{Change, Changes, changed_graph, coalesced_changes, net_of, new_change}
use Rattle.coalescer.specs.graph_change.Net.{Kept, node_after}
use Rattle.coalescer.specs.graph_change.Swaps.{kept_names, swapped_sum, told_change}
use Rattle.coalescer.specs.graph_change.Tidy.{AreTidyChanges}
use Rattle.coalescer.proofs.graph_change_lemmas.Law.{empty_at, untouched as nothing_changed}
use Rattle.coalescer.proofs.graph_change_lemmas.SwapNames.{sum_is}
use Rattle.coalescer.proofs.graph_change_lemmas.Tidying.{tidy_coalesced, tidy_many}
use Rattle.update_log.specs.log_record.declared.format.Record.{Record}
use Rattle.update_log.specs.log_record.Grammar.{FitsLimits, IsInode}
use Rattle.shared_area.specs.call_effects.NodeView.{view_at, view_of_node}
use Rattle.shared_area.specs.layout.declared.places.TheConstants.{SPARE_BLOCKS}
use Rattle.coalescer.specs.declared.weight.TheConstants.{CHUNK_IMAGES, CHUNK_BLOCKS}
use Rattle.coalescer.specs.Records.{effects_in}
use Rattle.coalescer.specs.Weight.{images, blocks, fits_chunk}
use Rattle.coalescer.specs.Within.{AreBlocksIn, images_of}
use Rattle.coalescer.proofs.Images.{images_told}
use Rattle.coalescer.proofs.Told.{blocks_told, told_touched}
use Rattle.shared_area.specs.record_validation.Good.{KeepsLimits}
use Rattle.digester.specs.Plan.{AreGood, NamesLeadToInodes, records_change}
use Rattle.digester.proofs.Known.{among_joined, touches_joined}
use Rattle.digester.proofs.Leads.{told_bounded}
use Rattle.digester.proofs.PlanRuns.{after_more}

-- ---- what fits

few_images : (es : List Effect) → fits_chunk es ≡ true → images es ≤ CHUNK_IMAGES
unfolding fits_chunk
few_images es fit = leb-true (images es) CHUNK_IMAGES (and_parts (nat_le (images es) CHUNK_IMAGES) (nat_le (blocks es) CHUNK_BLOCKS) fit).0

few_blocks : (es : List Effect) → fits_chunk es ≡ true → blocks es ≤ CHUNK_BLOCKS
unfolding fits_chunk
few_blocks es fit = leb-true (blocks es) CHUNK_BLOCKS (and_parts (nat_le (images es) CHUNK_IMAGES) (nat_le (blocks es) CHUNK_BLOCKS) fit).1

pub fit_images : (g : Graph) (es : List Effect) → fits_chunk es ≡ true → images_of (told_change g (swapped_sum es)) ≤ 255
fit_images g es fit = let most = few_images es fit in let its = images_told g es in omega (arith, most, its)

pub fit_blocks : (g : Graph) (es : List Effect) (bs : List (ℕ × ℕ)) → fits_chunk es ≡ true → AreBlocksIn (told_change g (swapped_sum es)) bs → length bs ≤ SPARE_BLOCKS
fit_blocks g es bs fit are =
    let most = few_blocks es fit in
    let its = blocks_told es (after_effects g (kept_names es)) (swap_places (kept_names es)) bs are in
    omega (arith, most, its)

-- ---- numbers within the limits

inode_fits : (i : ℕ) → IsInode i → is_inode i ≡ true
inode_fits i fit = and_from (nat_le 1 i) (nat_le i MAX_INODE) (le-leb 1 i fit.0) (le-leb i MAX_INODE fit.1)

one_bounded : (e : Effect) → FitsLimits e → is_bounded e ≡ true
one_bounded (effect.Make i kind) fit = inode_fits i fit
one_bounded (effect.Enter d i kind name) fit = and_from (is_inode d) (is_inode i) (inode_fits d fit.0) (inode_fits i fit.1)
one_bounded (effect.Leave d name) fit = inode_fits d fit.0
one_bounded (effect.Names i n) fit = and_from (is_inode i) (nat_le n MAX_NAMES) (inode_fits i fit.0) (le-leb n MAX_NAMES fit.1)
one_bounded (effect.Size i size) fit = and_from (is_inode i) (nat_le size MAX_FILE) (inode_fits i fit.0) (le-leb size MAX_FILE fit.1)
one_bounded (effect.Bytes i at bytes) fit = and_from (is_inode i) (nat_le (at + length bytes) MAX_FILE) (inode_fits i fit.0) (le-leb (at + length bytes) MAX_FILE fit.3)
one_bounded (effect.Drop i) fit = inode_fits i fit
one_bounded (effect.Swap d a e b) fit = and_from (is_inode d) (is_inode e) (inode_fits d fit.0) (inode_fits e fit.2)

bounded_then : (es fs : List Effect) → AllByRecursion FitsLimits es → AllByRecursion (λ e. is_bounded e ≡ true) fs → AllByRecursion (λ e. is_bounded e ≡ true) (es ++ fs)
bounded_then [] fs fit rest = rest
bounded_then (e ∷ es) fs fit rest = (one_bounded e fit.0, bounded_then es fs fit.1 rest)

all_bounded : (held : List ℕ) (capacity : ℕ) (g : Graph) (rs : List Record) → AreGood held capacity g rs → AllByRecursion (λ e. is_bounded e ≡ true) (effects_in rs)
all_bounded held capacity g [] all = tt
all_bounded held capacity g (r ∷ rs) all = bounded_then r.effects (effects_in rs) all.0.spelled.fit (all_bounded held capacity (after_effects g r.effects) rs all.1)

pub good_bounded : (held : List ℕ) (capacity : ℕ) (g : Graph) (rs : List Record) → NamesLeadToInodes g → AreGood held capacity g rs → AreBounded (records_change g rs)
good_bounded held capacity g rs leads all = told_bounded g (effects_in rs) leads (all_bounded held capacity g rs all)

pub told_tidy : (g : Graph) (es : List Effect) → AreTidyChanges (told_change g (swapped_sum es))
told_tidy g es = tidy_many (entered_places (after_effects g (kept_names es)) (swap_places (kept_names es))) (coalesced_changes es) (tidy_coalesced es)

-- ---- what is not in a change

none_there : (o : Option Change) → is_some o ≡ false → unwrap_or o (new_change Kept) ≡ new_change Kept
none_there None out = refl
none_there (Some c) out = absurd (false≢true (sym out))

pub others_stay : (g : Graph) (cs : Changes) (i : ℕ) → fin.contains_key cs i ≡ false → changed_graph cs g i ≡ g i
others_stay g cs i out = ap (λ (c : Change). node_after (net_of c) (g i)) (none_there (fin.get cs i) out ∙ sym (empty_at i)) ∙ nothing_changed (g i) i

-- ---- limits

-- of two rows of effects the first touches an inode, or the second does
second : (a b c : Bool) → c ≡ (a || b) → a ≡ false → c ≡ true → b ≡ true
second a b c is none some = ap (λ t. t || b) (sym none) ∙ sym is ∙ some

kept : (held : List ℕ) (capacity : ℕ) (g : Graph) (rs : List Record) (i : ℕ) → AreGood held capacity g rs → KeepsLimits (view_at g i) ⊎ (is_among i (touches (effects_in rs)) ≡ true) → KeepsLimits (view_at (after_effects g (effects_in rs)) i)
kept held capacity g [] i all (inl keeps) = keeps
kept held capacity g [] i all (inr among) = absurd (false≢true among)
kept held capacity g (r ∷ rs) i all first =
    let h = after_effects g r.effects in
    subst (λ (k : Graph). KeepsLimits (view_at k i)) (sym (after_more g r.effects (effects_in rs))) (kept held capacity h rs i all.1 (next (is_among i (touches r.effects)) refl first))
  where
    next : (b : Bool) → is_among i (touches r.effects) ≡ b → KeepsLimits (view_at g i) ⊎ (is_among i (touches (effects_in (r ∷ rs))) ≡ true) → KeepsLimits (view_at (after_effects g r.effects) i) ⊎ (is_among i (touches (effects_in rs)) ≡ true)
    next true its first = inl (all.0.limits i its)
    next false its (inl keeps) = inl (subst KeepsLimits (ap (option_map view_of_node) (sym (untouched g r.effects i its))) keeps)
    next false its (inr among) = inr (second (is_among i (touches r.effects)) (is_among i (touches (effects_in rs))) (is_among i (touches (effects_in (r ∷ rs))))
        (ap (is_among i) (touches_joined r.effects (effects_in rs)) ∙ among_joined i (touches r.effects) (touches (effects_in rs))) its among)

pub good_limits : (held : List ℕ) (capacity : ℕ) (g : Graph) (rs : List Record) (i : ℕ) → AreGood held capacity g rs → fin.contains_key (records_change g rs) i ≡ true → KeepsLimits (view_at (changed_graph (records_change g rs) g) i)
good_limits held capacity g rs i all its =
    subst (λ (k : Graph). KeepsLimits (view_at k i)) (sym (sum_is (effects_in rs) g)) (kept held capacity g rs i all (inr (told_touched g (effects_in rs) i its)))

-- ---- units

charge_kept : (held : List ℕ) (capacity : ℕ) (g : Graph) (rs : List Record) → AreGood held capacity g rs → charge g ≤ capacity → charge (after_effects g (effects_in rs)) ≤ capacity
charge_kept held capacity g [] all few = few
charge_kept held capacity g (r ∷ rs) all few =
    subst (λ (k : Graph). charge k ≤ capacity) (sym (after_more g r.effects (effects_in rs))) (charge_kept held capacity (after_effects g r.effects) rs all.1 all.0.charge)

some_charge : (held : List ℕ) (capacity : ℕ) (g : Graph) (rs : List Record) → 0 < length rs → AreGood held capacity g rs → charge (after_effects g (effects_in rs)) ≤ capacity
some_charge held capacity g [] some all = absurd (omega (arith, some))
some_charge held capacity g (r ∷ rs) some all =
    subst (λ (k : Graph). charge k ≤ capacity) (sym (after_more g r.effects (effects_in rs))) (charge_kept held capacity (after_effects g r.effects) rs all.1 all.0.charge)

pub good_charge : (held : List ℕ) (capacity : ℕ) (g : Graph) (rs : List Record) → 0 < length rs → AreGood held capacity g rs → charge (changed_graph (records_change g rs) g) ≤ capacity
good_charge held capacity g rs some all = subst (λ (k : Graph). charge k ≤ capacity) (sym (sum_is (effects_in rs) g)) (some_charge held capacity g rs some all)
