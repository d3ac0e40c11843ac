-- Records that a region's bytes spell touch inodes alone.
use Rattle.std.proofs.Common.{◌≡◌, inl, inr, ℕ, zero, suc, ◌%◌, true, false, eqb, cond, ◌||◌, List, [], ◌∷◌, ◌++◌, length, drop, Option, Some, None, refl, sym, ap, subst, ◌∙◌}
use Rattle.std.specs.List.{cons_option}
use Rattle.std.proofs.lemmas.Bool.{eqb-true, or_cases, false≢true, cases_Bool, cond_both}
use Rattle.std.proofs.lemmas.List.Folds.{list_any-append}
use Rattle.update_log.specs.file_graph.Graph.{is_among, subjects, touches}
use Rattle.update_log.specs.file_graph.declared.effect.Effect.{Effect}
use Rattle.update_log.specs.file_graph.declared.effect.Effect.TheVariants as effect
use Rattle.update_log.specs.log_record.declared.format.Record.{Record}
use Rattle.update_log.specs.log_record.Grammar.{◌>>=◌, IsInode, FitsLimits, fits, fields_at, effect_at, effects_at, header_at, record_at, record_of}
use Rattle.update_log.proofs.log_record_lemmas.Fields.{bind_some, test_some, some_is}
use Rattle.update_log.proofs.log_record_lemmas.Effects.{Fits-from_fits}
use Rattle.update_log.specs.Frames.{payloads, records, spelled_records}
use Rattle.update_log.specs.WipeStops.{generation}
use Rattle.update_log.specs.RecordCounts.{records_under, records_in, next_generation, counted_records}
use Rattle.world_invariant.specs.Logs.{is_touched, is_written}
use Rattle.world_invariant.proofs.Records.{written_append, front_written, rest_written}
use Rattle.log_survey.specs.Owners.{TouchInodes}

-- these numbers are inodes
abbrev pub AreInodes : List ℕ → Type 0
AreInodes is = (i : ℕ) → is_among i is ≡ true → IsInode i

alone_inode : (j : ℕ) → IsInode j → AreInodes (j ∷ [])
alone_inode j is i there = elim (or_cases (eqb j i) false there) [
  | inl same ↦ subst IsInode (eqb-true j i same) is
  | inr never ↦ absurd (false≢true never)
]

pub both_inodes : (is js : List ℕ) → AreInodes is → AreInodes js → AreInodes (is ++ js)
both_inodes is js first second i there = elim (or_cases (is_among i is) (is_among i js) (sym (list_any-append (λ j. eqb j i) is js) ∙ there)) [
  | inl h ↦ first i h
  | inr h ↦ second i h
]

subject_inode : (e : Effect) → FitsLimits e → AreInodes (subjects e)
subject_inode (effect.Make i k) fit = alone_inode i fit
subject_inode (effect.Enter d i k name) fit = alone_inode d fit.0
subject_inode (effect.Leave d name) fit = alone_inode d fit.0
subject_inode (effect.Names i n) fit = alone_inode i fit.0
subject_inode (effect.Size i size) fit = alone_inode i fit.0
subject_inode (effect.Bytes i at new) fit = alone_inode i fit.0
subject_inode (effect.Drop i) fit = alone_inode i fit
subject_inode (effect.Swap d a e b) fit = both_inodes (d ∷ []) (e ∷ []) (alone_inode d fit.0) (alone_inode e fit.2)

-- ---- what is read

effect_fits : (bytes : List ℕ) (x : Effect × List ℕ) → effect_at bytes ≡ Some x → FitsLimits x.0
unfolding effect_at
effect_fits bytes x e =
    let a = bind_some (fields_at bytes) (λ f. cond (fits f.0) (Some f) None) x e in
    let g = test_some (fits a.0.0) a.0 x a.2 in
    subst (λ (y : Effect × List ℕ). FitsLimits y.0) g.1 (Fits-from_fits a.0.0 g.0)

effects_inodes : (n : ℕ) (bytes : List ℕ) (x : List Effect × List ℕ) → effects_at n bytes ≡ Some x → AreInodes (touches x.0)
unfolding effects_at
effects_inodes zero bytes x e =
    subst (λ (y : List Effect × List ℕ). AreInodes (touches y.0)) (some_is ([], bytes) x e) (λ i there. absurd (false≢true there))
effects_inodes (suc n) bytes x e =
    let a = bind_some (effect_at bytes) (λ first. effects_at n first.1 >>= λ others. Some (first.0 ∷ others.0, others.1)) x e in
    let b = bind_some (effects_at n a.0.1) (λ others. Some (a.0.0 ∷ others.0, others.1)) x a.2 in
    let made : List Effect × List ℕ = (a.0.0 ∷ b.0.0, b.0.1) in
    subst (λ (y : List Effect × List ℕ). AreInodes (touches y.0)) (some_is made x b.2)
    (both_inodes (subjects a.0.0) (touches b.0.0) (subject_inode a.0.0 (effect_fits bytes a.0 a.1)) (effects_inodes n a.0.1 b.0 b.1))

front_inodes : (bytes : List ℕ) (x : Record × List ℕ) → record_at bytes ≡ Some x → AreInodes (touches x.0.effects)
unfolding record_at
front_inodes bytes x e =
    let a = bind_some (header_at bytes) (λ h. effects_at h.0.1 h.1 >>= λ es. Some (record { units = h.0.0; effects = es.0 }, es.1)) x e in
    let b = bind_some (effects_at a.0.0.1 a.0.1) (λ es. Some (record { units = a.0.0.0; effects = es.0 }, es.1)) x a.2 in
    let made : Record × List ℕ = (record { units = a.0.0.0; effects = b.0.0 }, b.0.1) in
    subst (λ (y : Record × List ℕ). AreInodes (touches y.0.effects)) (some_is made x b.2) (effects_inodes a.0.0.1 a.0.1 b.0 b.1)

record_inodes : (bytes : List ℕ) (r : Record) → record_of bytes ≡ Some r → AreInodes (touches r.effects)
unfolding record_of
record_inodes bytes r e =
    let a = bind_some (record_at bytes) (λ x. cond (eqb (length x.1) 0) (Some x.0) None) r e in
    let g = test_some (eqb (length a.0.1) 0) a.0.0 r a.2 in
    subst (λ (s : Record). AreInodes (touches s.effects)) g.1 (front_inodes bytes a.0 a.1)

-- ---- lists of records

pub none_touch : TouchInodes []
none_touch i there = absurd (false≢true there)

pub one_touches : (r : Record) (rs : List Record) → AreInodes (touches r.effects) → TouchInodes rs → TouchInodes (r ∷ rs)
one_touches r rs first rest i there = elim (or_cases (is_touched i r) (is_written i rs) there) [
  | inl h ↦ first i h
  | inr h ↦ rest i h
]

pub both_touch : (rs ss : List Record) → TouchInodes rs → TouchInodes ss → TouchInodes (rs ++ ss)
both_touch rs ss first second i there = elim (or_cases (is_written i rs) (is_written i ss) (sym (written_append i rs ss) ∙ there)) [
  | inl h ↦ first i h
  | inr h ↦ second i h
]

pub drop_touches : (n : ℕ) (rs : List Record) → TouchInodes rs → TouchInodes (drop n rs)
drop_touches zero rs all = all
drop_touches (suc n) [] all = none_touch
drop_touches (suc n) (r ∷ rs) all = drop_touches n rs (λ i there. all i (elim (cases_Bool (is_touched i r)) [
  | inl t ↦ ap (λ b. b || is_written i rs) t
  | inr f ↦ ap (λ b. b || is_written i rs) f ∙ there
]))

next_touches : (o : Option Record) (rs : List Record) → ((r : Record) → o ≡ Some r → AreInodes (touches r.effects)) → TouchInodes rs → TouchInodes (cons_option o rs)
next_touches None rs first rest = rest
next_touches (Some r) rs first rest = one_touches r rs (first r refl) rest

spelled_touch : (ps : List (List ℕ)) → TouchInodes (spelled_records ps)
spelled_touch [] = none_touch
spelled_touch (p ∷ ps) = next_touches (record_of p) (spelled_records ps) (record_inodes p) (spelled_touch ps)

pub region_touches : (content : List ℕ) → TouchInodes (records content)
region_touches content = spelled_touch (payloads content)

turn_touches : (g : ℕ) (content : List ℕ) → TouchInodes (records_under g content)
turn_touches g content = cond_both (eqb (generation content) g) (records content) [] TouchInodes (λ t. region_touches content) (λ f. none_touch)

pub counted_touch : (g done : ℕ) (regions : ℕ → List ℕ) → TouchInodes (counted_records g done regions)
counted_touch g done regions =
    both_touch (drop done (records_in regions g)) (records_in regions (next_generation g))
    (drop_touches done (records_in regions g) (turn_touches g (regions (g % 2))))
    (turn_touches (next_generation g) (regions (next_generation g % 2)))

pub part_touches : (rs ss : List Record) → TouchInodes (rs ++ ss) → TouchInodes rs × TouchInodes ss
part_touches rs ss all = ((λ i there. all i (front_written i rs ss there)), (λ i there. all i (rest_written i rs ss there)))
