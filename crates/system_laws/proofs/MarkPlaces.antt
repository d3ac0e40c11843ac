-- Where a client's mark stands, and which of its records are behind it.
use Rattle.std.proofs.Common.{◌≡◌, ◌≢◌, ◌⊎◌, inl, inr, ℕ, ◌+◌, ◌-◌, ◌<◌, ◌≤◌, cond, Bool, true, false, List, [], ◌∷◌, ◌++◌, drop, length, Option, Some, None, refl, ap, sym, ◌∙◌, subst, arith}
use Rattle.std.specs.Prelude.{is_some}
use Rattle.std.proofs.lemmas.Bool.{false≢true}
use Rattle.std.proofs.lemmas.Bool.Decides.{eqb_tells}
use Rattle.std.proofs.lemmas.List.{drop_all, length-append, length-drop}
use Rattle.std.proofs.Math.Seq.{drop-nil}
use Rattle.tier_device.specs.declared.media.Media.{Ghosts}
use Rattle.posix_calls.specs.declared.call.Call.{Call}
use Rattle.event_steps.specs.file_graph.Graph.{Graph}
use Rattle.event_steps.specs.log_record.declared.format.Record.{Record}
use Rattle.event_steps.specs.layout.declared.marks.Mark.{Mark}
use Rattle.event_steps.specs.digester.MarkMoves.{mark_after}
use Rattle.event_steps.specs.update_log.RecordCounts.{next_generation}
use Rattle.event_steps.specs.update_log.View.{RegionView}
use Rattle.event_steps.specs.client_log.HasTurn.{region_at}
use Rattle.event_steps.specs.client_log.Turns.{place_of}
use Rattle.event_steps.specs.client_log.View.{current_records}
use Rattle.event_steps.specs.libfs.SealedRegion.{SealedRegionView}
use Rattle.event_steps.specs.world_invariant.ClientParts.{IsSoundPart}
use Rattle.event_steps.specs.world_invariant.World.{Account, Client, undigested_records}
use Rattle.event_steps.specs.world_invariant.World as world
use Rattle.event_steps.specs.Sound.{IsAwayFrom, IsSeated}
use Rattle.event_steps.specs.View.{SeatView, done_of}
use Rattle.system_laws.specs.Relation.{IsClientOf, StandsMarked, first_generation}
use Rattle.system_laws.specs.WorldTree.{away_records, records_behind}

-- It is within the region that is away, some of whose records are behind it.
pub record IsMarkAway {M : Type 0} (device : Ghosts M) (m : Mark) (s : SeatView M) (a : Account) (p : Client) : Type 0 where
  pub region : SealedRegionView M
  pub away : s.away ≡ Some region
  pub from : IsAwayFrom device s.client region
  pub generation : m.generation ≡ region.generation
  pub done : m.done ≡ a.mark - p.past
  pub some : m.done < length p.sealed

-- It is before the region that the client writes: no record of the sealed one is left.
pub record IsMarkHome {M : Type 0} (m : Mark) (s : SeatView M) (a : Account) (p : Client) : Type 0 where
  pub mark : m ≡ record { generation = s.client.log.generation; done = 0 }
  pub all : drop (a.mark - p.past) p.sealed ≡ []

-- By a mark and by an account the same records of a client are digested.
abbrev pub IsMarkBy : {M : Type 0} → Ghosts M → Mark → SeatView M → Account → Client → Type 0
IsMarkBy device m s a p = IsMarkAway device m s a p ⊎ IsMarkHome m s a p

next_is_other : (g : ℕ) → next_generation g ≢ g
next_is_other g is = omega (arith, is)

pub not_away : {M : Type 0} (o : Option (RegionView M)) (clean : Bool) → is_some o ≡ true → region_at (place_of o clean) ≢ world.Away
not_away None clean there is = absurd (false≢true there)
not_away (Some r) true there is = absurd cc
not_away (Some r) false there is = absurd cc

-- where a mark moves to, by whether all of its generation is done
abbrev moved_to : ℕ → ℕ → Bool → Mark
moved_to g done all = cond all (record { generation = next_generation g; done = 0 }) (record { generation = g; done = done })

none_first : (first rest : List Record) → first ++ rest ≡ [] → first ≡ []
none_first [] rest is = refl
none_first (r ∷ first) rest is = absurd cc

module _ {M : Type 0} (device : Ghosts M) (s : SeatView M) (a : Account) (p : Client) (call : Option Call) (seated : IsSeated device s.client s.away) (of : IsClientOf device s call p) where
  current_is : p.current ≡ current_records device s.client.log
  current_is = of.turn.current

  -- ---- the records behind it

  home_records : (m : Mark) → IsMarkHome m s a p → records_behind device m s ≡ undigested_records a p
  home_records m h =
      let g = s.client.log.generation in
      ap (λ (n : Mark). records_behind device n s) h.mark
      ∙ elim (eqb_tells g g) [
        | inl same ↦ ap (λ (b : Bool). cond b (current_records device s.client.log) (away_records device s.away ++ current_records device s.client.log)) same.0
        | inr other ↦ absurd (other.1 refl)
      ]
      ∙ sym (ap (λ (rs : List Record). rs ++ p.current) h.all ∙ current_is)

  away_apart : (m : Mark) → IsMarkAway device m s a p → m.generation ≢ s.client.log.generation
  away_apart m h same = next_is_other h.region.generation (h.from.before ∙ sym same ∙ h.generation)

  sealed_are : (m : Mark) → IsMarkAway device m s a p → away_records device s.away ≡ p.sealed
  sealed_are m h = ap (λ (o : Option (SealedRegionView M)). away_records device o) h.away ∙ h.from.records ∙ sym of.sealed

  away_are : (m : Mark) → IsMarkAway device m s a p → records_behind device m s ≡ undigested_records a p
  away_are m h = elim (eqb_tells m.generation s.client.log.generation) [
    | inl same ↦ absurd (away_apart m h same.1)
    | inr other ↦
        ap (λ (b : Bool). cond b (drop m.done (current_records device s.client.log)) (drop m.done (away_records device s.away) ++ current_records device s.client.log)) other.0
        ∙ ap (λ (n : ℕ). drop n (away_records device s.away) ++ current_records device s.client.log) h.done
        ∙ ap (λ (rs : List Record). drop (a.mark - p.past) rs ++ current_records device s.client.log) (sealed_are m h)
        ∙ ap (λ (rs : List Record). drop (a.mark - p.past) p.sealed ++ rs) (sym current_is)
  ]

  -- a client's records behind its mark are those that its account has as not digested
  pub behind_mark : (m : Mark) → IsMarkBy device m s a p → records_behind device m s ≡ undigested_records a p
  behind_mark m (inl h) = away_are m h
  behind_mark m (inr h) = home_records m h

  -- ---- where it stands

  -- as the client's part of the world stands
  pub mark_now : (m : Mark) (g : Graph) (c accepted : ℕ) → StandsMarked m s a accepted p → IsSoundPart g a c p → IsMarkBy device m s a p
  mark_now m g c accepted marked stands =
      elim (s.away) as (λ o. s.away ≡ o → IsMarkBy device m s a p) [
        | None ↦ λ is. inr (record {
          mark = marked.mark ∙ ap (λ (o : Option (SealedRegionView M)). record { generation = first_generation s.client.log.generation o; done = done_of o }) is;
          all = ap (λ (rs : List Record). drop (a.mark - p.past) rs) (stands.marked.none (λ away. not_away s.client.log.other s.client.log.clean (subst (λ o. IsSeated device s.client o) is seated) (sym of.turn.other ∙ away))) ∙ drop-nil (a.mark - p.past);
        })
        | Some x ↦ λ is. inl (record {
          region = x;
          away = is;
          from = subst (λ o. IsSeated device s.client o) is seated;
          generation = ap (λ (k : Mark). k.generation) marked.mark ∙ ap (λ o. first_generation s.client.log.generation o) is;
          done = ap (λ (k : Mark). k.done) marked.mark ∙ (let count = marked.digested in omega (arith, count));
          some = subst (λ (n : ℕ). n < length p.sealed) (sym (ap (λ (k : Mark). k.done) marked.mark)) (subst (λ (rs : List Record). done_of s.away < length rs) (sym of.sealed) (subst (λ o. done_of o < length s.client.sealed) (sym is) (subst (λ o. IsSeated device s.client o) is seated).some));
        })
      ] refl

  -- once some more records are digested
  module _ (b : Account) (first rest : List Record) (some : first ≢ []) (split : drop (a.mark - p.past) p.sealed ≡ first ++ rest) (low : p.past ≤ a.mark) (counts : b.mark ≡ a.mark + length first) where
    lengths : length p.sealed - (a.mark - p.past) ≡ length first + length rest
    lengths = sym (length-drop (a.mark - p.past) p.sealed) ∙ ap length split ∙ length-append first rest

    mark_moves : (m : Mark) → IsMarkAway device m s a p → IsMarkBy device (mark_after m.generation (m.done + length first) (length p.sealed)) s b p
    mark_moves m h = elim (eqb_tells (m.done + length first) (length p.sealed)) [
      | inl all ↦ inr (record {
        mark = ap (λ (t : Bool). moved_to m.generation (m.done + length first) t) all.0
            ∙ ap (λ (n : ℕ). record { generation = n; done = 0 }) (ap next_generation h.generation ∙ h.from.before);
        all = drop_all (b.mark - p.past) p.sealed (let end = all.1 in let before = h.done in omega (arith, end, before, counts, low));
      })
      | inr part ↦ inl (record {
        region = h.region;
        away = h.away;
        from = h.from;
        generation = ap (λ (t : Bool). (moved_to m.generation (m.done + length first) t).generation) part.0 ∙ h.generation;
        done = ap (λ (t : Bool). (moved_to m.generation (m.done + length first) t).done) part.0 ∙ (let before = h.done in omega (arith, before, counts, low));
        some = subst (λ (n : ℕ). n < length p.sealed) (sym (ap (λ (t : Bool). (moved_to m.generation (m.done + length first) t).done) part.0)) (let before = h.done in let inside = h.some in let many = lengths in let off = part.1 in omega (arith, before, inside, many, off));
      })
    ]

    none_more : first ++ rest ≢ []
    none_more is = some (none_first first rest is)

    pub mark_then : (m : Mark) → IsMarkBy device m s a p → IsMarkBy device (mark_after m.generation (m.done + length first) (length p.sealed)) s b p
    mark_then m (inl h) = mark_moves m h
    mark_then m (inr h) = absurd (none_more (sym split ∙ h.all))
