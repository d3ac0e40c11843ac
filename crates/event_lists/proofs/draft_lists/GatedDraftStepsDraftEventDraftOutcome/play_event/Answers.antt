use Rattle.std.proofs.Common.{refl, subst, sym}
use Rattle.event_lists.specs.Courses.{LeftBetween}
use Rattle.event_lists.specs.Plays.{StopsNow}
use Rattle.event_lists.specs.declared.gated_draft.GatedDraft.TheVariants.{Drafted, Open}
use Rattle.event_lists.specs.contracts.draft_lists.GatedDraftRecoverableDraftEventDraftOutcome.TheImpl.{ghosts}
use Rattle.event_lists.proofs.DraftStops.{commit_stops, draft_stops, mkdir_step, moves_none, none_moves, now_stops}
use Rattle.event_lists.specs.declared.gated_draft.DraftOutcome.TheVariants.{Done}
use Rattle.event_lists.specs.GatedDraft.{calls_of, clock_of, left_of, after_mkdir, news_of, pending, tree_of}
use Rattle.posix_calls.specs.EmptyTree.{empty_state}
use Rattle.posix_calls.specs.Run.{Run}
use Rattle.event_lists.proofs.draft_lists.GatedDraftStepsDraftEventDraftOutcome.play_event.Goals as goal

pub returns-in-Fresh-Draft-clause-during : goal.returns-in-Fresh-Draft-clause-during
returns-in-Fresh-Draft-clause-during c = λ c' held. subst (λ it. StopsNow ghosts it c') (sym c.in-Fresh-Draft.is-0) (draft_stops c' (subst (λ it. LeftBetween (left_of Drafted) (clock_of it) (clock_of Drafted) c') c.in-Fresh-Draft.is-0 held))

pub returns-in-Drafted-Commit-clause-run : goal.returns-in-Drafted-Commit-clause-run
returns-in-Drafted-Commit-clause-run c =
    subst (λ it. Run (tree_of it) (news_of (calls_of it) c.args.event.now Done).turns after_mkdir) (sym c.in-Drafted-Commit.is-0)
    (subst (λ e. Run empty_state (news_of pending e Done).turns after_mkdir) (sym c.in-Drafted-Commit.is-1) (after_mkdir, mkdir_step, refl))

pub returns-in-Drafted-Commit-clause-during : goal.returns-in-Drafted-Commit-clause-during
returns-in-Drafted-Commit-clause-during c = λ c' held. subst (λ it. StopsNow ghosts it c') (sym c.in-Drafted-Commit.is-0) (commit_stops c' (subst (λ it. LeftBetween (left_of Open) (clock_of it) (clock_of Open) c') c.in-Drafted-Commit.is-0 held))

pub returns-in_default-clause-during : goal.returns-in_default-clause-during
returns-in_default-clause-during c = now_stops c.args.self.now

pub returns-in_default-2-clause-during : goal.returns-in_default-2-clause-during
returns-in_default-2-clause-during c = now_stops c.args.self.now

pub returns-in_default-3 : goal.returns-in_default-3
returns-in_default-3 c =
    record {
      run = refl;
      calls = refl;
      effect = refl;
      one_part = moves_none (clock_of c.args.self.now);
      in_pace = none_moves c.args.event.now (clock_of c.args.self.now);
      past = λ p m c' part le. (λ h. h, λ h. h);
      alike = record { can = λ c'. (λ h. h, λ h. h); stored = λ c'. refl };
      during = now_stops c.args.self.now;
    }
