-- The marks at the beginnings of the generations under which the logs that were found go on.
use Rattle.std.proofs.Common.{◌≡◌, ℕ, zero, suc, ◌-◌, List, [], ◌∷◌, length, map, refl, ap, sym, ◌∙◌, subst, arith}
use Rattle.std.specs.Prelude.{get_or, slice_get, slice_index, Some}
use Rattle.std.proofs.lemmas.List.{length-map}
use Rattle.recovery_laws.specs.area_reader.Store.{marks, store_of}
use Rattle.recovery_laws.specs.layout.declared.marks.Mark.{Mark}
use Rattle.event_lists.specs.Courses.{Content}
use Rattle.area_recovery.specs.Silent.{AreMarked}
use Rattle.area_recovery.specs.declared.log_search.FoundLog.{FoundLog}
use Rattle.area_recovery.proofs.ReadContents.{AreFresh, AreGenerations}
use Rattle.area_recovery.proofs.RegionMedia.{some_is}
use Rattle.area_recovery.proofs.SettledArea.{are_marked, mark_in_turn}
use Rattle.area_recovery.proofs.SilentRegions.{client_bounds}

abbrev pub mark_of_generation : ℕ → Mark
mark_of_generation g = record { generation = g; done = 0 }

generation_at : (logs : List FoundLog) (k : ℕ) (log : FoundLog) → slice_get logs k ≡ Some log → slice_index (map (λ l. l.generation) logs) k ≡ log.generation
generation_at [] k log at = absurd (cc at)
generation_at (l ∷ logs) zero log at = ap (λ (x : FoundLog). x.generation) (some_is at)
generation_at (l ∷ logs) (suc k) log at = generation_at logs k log at

module _ (logs : List FoundLog) (gs : List ℕ) (gs_is : gs ≡ map (λ l. l.generation) logs) (eight : length logs ≡ 8) (clients : List Mark) (clients_is : clients ≡ map mark_of_generation gs) where
  pub are_eight : length gs ≡ 8
  are_eight = ap length gs_is ∙ length-map logs (λ l. l.generation) ∙ eight

  pub are_generations : AreGenerations logs gs
  are_generations k log at = ap (λ (xs : List ℕ). slice_index xs k) gs_is ∙ generation_at logs k log at

  pub are_fresh : AreFresh gs clients
  are_fresh c is_c =
      let bounds = client_bounds c is_c in
      let least = bounds.0 in
      let most = bounds.1 in
      let long = are_eight in
      subst (λ (ms : List Mark). get_or ms (c - 1) (mark_of_generation 0) ≡ mark_of_generation (slice_index gs (c - 1))) (sym clients_is) (mark_in_turn gs (c - 1) (mark_of_generation 0) (omega (arith, least, most, long)))

  pub fresh_marked : (shared : Content) (digests : ℕ) → marks (store_of shared) ≡ Some (record { clients = clients; digests = digests }) → AreMarked gs shared
  fresh_marked shared digests is = are_marked gs shared digests are_eight (is ∙ ap (λ (ms : List Mark). Some (record { clients = ms; digests = digests })) clients_is)

-- eight marks, one by one
pub each_mark : (gs : List ℕ) → length gs ≡ 8 → mark_of_generation (slice_index gs 0) ∷ mark_of_generation (slice_index gs 1) ∷ mark_of_generation (slice_index gs 2) ∷ mark_of_generation (slice_index gs 3)
    ∷ mark_of_generation (slice_index gs 4) ∷ mark_of_generation (slice_index gs 5) ∷ mark_of_generation (slice_index gs 6) ∷ mark_of_generation (slice_index gs 7) ∷ [] ≡ map mark_of_generation gs
each_mark [] e = absurd (omega (arith, e))
each_mark (a ∷ []) e = absurd (omega (arith, e))
each_mark (a ∷ b ∷ []) e = absurd (omega (arith, e))
each_mark (a ∷ b ∷ c ∷ []) e = absurd (omega (arith, e))
each_mark (a ∷ b ∷ c ∷ d ∷ []) e = absurd (omega (arith, e))
each_mark (a ∷ b ∷ c ∷ d ∷ f ∷ []) e = absurd (omega (arith, e))
each_mark (a ∷ b ∷ c ∷ d ∷ f ∷ g ∷ []) e = absurd (omega (arith, e))
each_mark (a ∷ b ∷ c ∷ d ∷ f ∷ g ∷ h ∷ []) e = absurd (omega (arith, e))
each_mark (a ∷ b ∷ c ∷ d ∷ f ∷ g ∷ h ∷ i ∷ []) e = refl
each_mark (a ∷ b ∷ c ∷ d ∷ f ∷ g ∷ h ∷ i ∷ j ∷ rest) e = absurd (omega (arith, e))
