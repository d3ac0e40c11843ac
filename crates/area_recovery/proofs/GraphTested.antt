-- What a test of the area's graph found.
use Rattle.std.proofs.Common.{◌≡◌, ◌≢◌, ◌⊎◌, inl, inr, ℕ, ◌≤◌, true, false, List, Option, Some, None, refl, sym, ◌∙◌, subst, arith}
use Rattle.std.specs.Prelude.{Err, option_map}
use Rattle.std.proofs.lemmas.Bool.{cases_Bool, false≢true}
use Rattle.std.proofs.lemmas.Bool.Decides.{nat_tests}
use Rattle.tier_device.specs.declared.media.Media.{Ghosts}
use Rattle.tier_device.specs.Media.{Rose}
use Rattle.recovery_laws.specs.layout.Places.{Sizes, is_inode}
use Rattle.recovery_laws.specs.batch_journal.Course.{Unmoved}
use Rattle.recovery_laws.specs.batch_journal.View.{JournalView}
use Rattle.recovery_laws.specs.area_reader.Looks.{Looks, call_answer}
use Rattle.recovery_laws.specs.area_reader.Store.{Store, graph}
use Rattle.recovery_laws.specs.area_reader.declared.error.AreaError.{AreaError}
use Rattle.recovery_laws.specs.area_reader.declared.error.AreaError.TheVariants as area
use Rattle.recovery_laws.specs.shared_area.NodeQuestions.{HasAsked}
use Rattle.recovery_laws.specs.shared_area.Parts.{IsNoDamage}
use Rattle.recovery_laws.proofs.shared_area_lemmas.Entries.{no_view}
use Rattle.graph_check.specs.file_graph.Graph.{Graph, Node}
use Rattle.graph_check.specs.file_graph.declared.effect.Kind.{Kind}
use Rattle.graph_check.specs.call_effects.NodeView.{view_of_node}
use Rattle.graph_check.specs.call_effects.Wholes.{kind_of}
use Rattle.graph_check.specs.declared.defect.GraphError.{GraphError}
use Rattle.graph_check.specs.declared.defect.GraphError.TheVariants as why
use Rattle.graph_check.specs.Defects.{HasDefect, HasInodesAlone, IfUnsound}
use Rattle.graph_check.specs.Questions.{AskedUntil}
use Rattle.area_recovery.specs.declared.error.RecoveryError.{RecoveryError}
use Rattle.area_recovery.specs.declared.error.RecoveryError.TheVariants as errors
use Rattle.area_recovery.specs.Errors.{OnDamage, IsOfArea, IsAreaFault}
use Rattle.area_recovery.specs.FaultOrMemory.{IsFaultOrMemory}
use Rattle.area_recovery.specs.GraphTests.{FindsNoDamage, IsGraphDamage, IsGraphFault}
use Rattle.area_recovery.specs.Phases.{AnswersFaults}
use Rattle.area_recovery.proofs.Faults.{of_area, no_damage}

-- ---- nodes stand at inode numbers alone

no_node : (o : Option Node) (k : Kind) → None ≡ option_map view_of_node o → kind_of o ≡ Some k → ⊥
no_node None k none is = absurd (cc is)
no_node (Some n) k none is = absurd (cc none)

pub inodes_alone : (g : Sizes) (s : Store) → HasInodesAlone (graph g s)
inodes_alone g s i k is = elim (cases_Bool (is_inode i)) [
  | inl there ↦ (low i there, high i there)
  | inr none ↦ absurd (no_node (graph g s i) k (no_view g s i none) is)
]
  where
    low : (j : ℕ) → is_inode j ≡ true → 1 ≤ j
    low j e = grind (arith, nat_tests)

    high : (j : ℕ) → is_inode j ≡ true → j ≤ 1024
    high j e = grind (arith, nat_tests)

-- ---- what was asked

module _ {M : Type 0} (device : Ghosts M) (old new : JournalView M) where
  -- the last look, by why the graph was not found sound
  abbrev pub LookedFor : GraphError AreaError → Type 0
  LookedFor why.Memory = Looks device old new call_answer
  LookedFor (why.Nodes e) = Looks {T = Unit {0}} device old new (Err e) × IsNoDamage e
  LookedFor (why.Unsound inode defect) = Looks device old new call_answer

  abbrev asked : JournalView M → JournalView M → List ℕ → Option AreaError → Type 0
  asked first last inodes refusal = HasAsked device first last refusal

  pub looked_for : (e : GraphError AreaError) → old.failed ≡ false → AskedUntil asked old new e → LookedFor e
  looked_for why.Memory going led = either led
    where
      either : HasAsked device old new None ⊎ HasAsked device old new None → Looks device old new call_answer
      either (inl none) = (none going).0
      either (inr all) = (all going).0
  looked_for (why.Nodes e) going led = led.led going
  looked_for (why.Unsound inode defect) going led = (led going).0

  pub finds_no_damage : (e : GraphError AreaError) → LookedFor e → FindsNoDamage e
  finds_no_damage why.Memory looks = tt
  finds_no_damage (why.Nodes e) looks = looks.1
  finds_no_damage (why.Unsound inode defect) looks = tt

  -- a refusal that is no device fault
  quiet_answers : {T : Type 0} (f : RecoveryError) → f ≢ errors.DeviceFault → Looks device old new call_answer → AnswersFaults {T = T} device old new (Err f)
  quiet_answers f other looks = record {
    geometry = looks.geometry;
    more_faults = looks.more_faults;
    one_fault = looks.one_fault;
    quiet = tt;
    quiet_refused = λ off. (looks.quiet, looks.going.1);
    fault = λ same. absurd (other same);
  }

  node_answers : {T : Type 0} (e : AreaError) (f : RecoveryError) → old.failed ≡ false → IsAreaFault e f → Looks {T = Unit {0}} device old new (Err e) → IsNoDamage e → AnswersFaults {T = T} device old new (Err f)
  node_answers area.DeviceFault f going is looks sound = record {
    geometry = looks.geometry;
    more_faults = looks.more_faults;
    one_fault = looks.one_fault;
    quiet = tt;
    quiet_refused = λ off. absurd (off is);
    fault = λ same. ((looks.fault refl).0, rose (looks.fault refl).1);
  }
    where
      rose : (old.failed ≡ true) ⊎ Rose (device.faults old.media) (device.faults new.media) → Rose (device.faults old.media) (device.faults new.media)
      rose (inl failed) = absurd (false≢true (sym going ∙ failed))
      rose (inr rises) = rises
  node_answers (area.Damaged what block) f going is looks sound = absurd sound
  node_answers area.NoBlock f going is looks sound = absurd sound
  node_answers area.NotMapped f going is looks sound = absurd sound
  node_answers area.Memory f going is looks sound = record {
    geometry = looks.geometry;
    more_faults = looks.more_faults;
    one_fault = looks.one_fault;
    quiet = tt;
    quiet_refused = λ off. (let quiet = looks.quiet_refused (λ same. cc same) in (quiet.0, quiet.2));
    fault = λ same. absurd (cc (is, same));
  }

  pub tested_answers : {T : Type 0} (e : GraphError AreaError) (f : RecoveryError) → old.failed ≡ false → IsGraphFault e f → LookedFor e → AnswersFaults {T = T} device old new (Err f)
  tested_answers why.Memory f going is looks = quiet_answers f (λ same. cc (is, same)) looks
  tested_answers (why.Nodes e) f going is looks = node_answers e f going is looks.0 looks.1
  tested_answers (why.Unsound inode defect) f going is looks = quiet_answers f (λ same. cc (is, same)) looks

  nodes_damage : (e : AreaError) (f : RecoveryError) → IsAreaFault e f → IsNoDamage e → (g : Graph) → OnDamage f (IsGraphDamage g)
  nodes_damage area.DeviceFault f is sound g = subst (λ (x : RecoveryError). OnDamage x (IsGraphDamage g)) (sym is) tt
  nodes_damage (area.Damaged what block) f is sound g = absurd sound
  nodes_damage area.NoBlock f is sound g = absurd sound
  nodes_damage area.NotMapped f is sound g = absurd sound
  nodes_damage area.Memory f is sound g = subst (λ (x : RecoveryError). OnDamage x (IsGraphDamage g)) (sym is) tt

  pub tested_damage : (e : GraphError AreaError) (f : RecoveryError) (g : Graph) → IsGraphFault e f → LookedFor e → IfUnsound e (HasDefect g) → OnDamage f (IsGraphDamage g)
  tested_damage why.Memory f g is looks has = subst (λ (x : RecoveryError). OnDamage x (IsGraphDamage g)) (sym is) tt
  tested_damage (why.Nodes e) f g is looks has = nodes_damage e f is looks.1 g
  tested_damage (why.Unsound inode defect) f g is looks has = subst (λ (x : RecoveryError). OnDamage x (IsGraphDamage g)) (sym is) (record { is_slot = refl; inode = inode; defect = defect; has = has; at = refl })

  nodes_unsound : (e : AreaError) (f : RecoveryError) (P : Type 0) → IsAreaFault e f → IsNoDamage e → OnDamage f (λ _ _. P)
  nodes_unsound area.DeviceFault f P is sound = subst (λ (x : RecoveryError). OnDamage x (λ _ _. P)) (sym is) tt
  nodes_unsound (area.Damaged what block) f P is sound = absurd sound
  nodes_unsound area.NoBlock f P is sound = absurd sound
  nodes_unsound area.NotMapped f P is sound = absurd sound
  nodes_unsound area.Memory f P is sound = subst (λ (x : RecoveryError). OnDamage x (λ _ _. P)) (sym is) tt

  pub tested_unsound : (e : GraphError AreaError) (f : RecoveryError) (P : Type 0) → IsGraphFault e f → LookedFor e → IfUnsound e (λ inode defect. P) → OnDamage f (λ _ _. P)
  tested_unsound why.Memory f P is looks has = subst (λ (x : RecoveryError). OnDamage x (λ _ _. P)) (sym is) tt
  tested_unsound (why.Nodes e) f P is looks has = nodes_unsound e f P is looks.1
  tested_unsound (why.Unsound inode defect) f P is looks has = subst (λ (x : RecoveryError). OnDamage x (λ _ _. P)) (sym is) has

module _ {M : Type 0} (device : Ghosts M) (old new : JournalView M) where
  pub looked_unmoved : (e : GraphError AreaError) → LookedFor device old new e → Unmoved (device.moment old.media) (device.moment new.media) (device.seen old.media) (device.seen new.media) (device.left old.media) (device.left new.media)
  looked_unmoved why.Memory looks = looks.unmoved
  looked_unmoved (why.Nodes e) looks = looks.0.unmoved
  looked_unmoved (why.Unsound inode defect) looks = looks.unmoved

  pub tested_never : (e : GraphError AreaError) (f : RecoveryError) (P : Type 0) → IsGraphFault e f → LookedFor device old new e → IfUnsound e (λ inode defect. P → ⊥) → P → IsFaultOrMemory f
  tested_never why.Memory f P is looks not p = subst IsFaultOrMemory (sym is) tt
  tested_never (why.Nodes e) f P is looks not p = no_damage e f ⊥ is looks.1 (λ x. x)
  tested_never (why.Unsound inode defect) f P is looks not p = absurd (not p)

pub tested_of_area : (e : GraphError AreaError) (f : RecoveryError) → IsGraphFault e f → IsOfArea f
tested_of_area why.Memory f is = subst IsOfArea (sym is) tt
tested_of_area (why.Nodes e) f is = of_area e f is
tested_of_area (why.Unsound inode defect) f is = subst IsOfArea (sym is) tt
