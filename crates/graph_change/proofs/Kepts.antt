-- What is kept once bytes are put at a place, or nothing from a place on, by the way in which it was kept.
use Rattle.std.proofs.Common.{◌≡◌, ◌<◌, ◌-◌, ℕ, Bool, true, false, cond, List, length, get_or, take, refl, Some, None, ap, sym, ◌∙◌, subst}
use Rattle.std.specs.Prelude.{IsSome, Result, Ok, Err, IfOk, OnErr, nat_lt}
use Rattle.graph_change.specs.Bytes.{in_run}
use Rattle.graph_change.specs.Change.{blank, cut_patch, put_patch}
use Rattle.graph_change.specs.Runs.{kept_view, run_at}
use Rattle.graph_change.specs.View.{patch_of}
use Rattle.graph_change.specs.declared.kept_bytes.Kept.{Kept}
use Rattle.graph_change.specs.declared.kept_bytes.Kept.TheVariants.{Nothing, Run}
use Rattle.graph_change.proofs.Runs.{run_is, run_cut, run_some}

-- where nothing is kept
pub put_on_nothing : (kept : Kept) (place : ℕ) (part : List ℕ) → kept ≡ Nothing → (p : ℕ) → patch_of (run_at place part) p ≡ put_patch place part (patch_of (kept_view kept)) p
put_on_nothing kept place part is p = subst (λ k. patch_of (run_at place part) p ≡ put_patch place part (patch_of (kept_view k)) p) (sym is) (run_is place part p)

-- where a run is kept
pub put_over_run : (kept : Kept) (first place : ℕ) (run part : List ℕ) → kept ≡ Run first run → (p : ℕ) → put_patch place part (put_patch first run blank) p ≡ put_patch place part (patch_of (kept_view kept)) p
put_over_run kept first place run part is p =
    ap (λ t. cond (in_run place (length part) p) (Some (get_or part (p - place) 0)) t) (sym (run_is first run p) ∙ ap (λ k. patch_of (kept_view k) p) (sym is))

-- a run of some bytes has one
pub some_of_run : (kept : Kept) (first : ℕ) (run : List ℕ) → kept ≡ Run first run → 0 < length run → IsSome (patch_of (kept_view kept) first)
some_of_run kept first run is some = subst (λ k. IsSome (patch_of (kept_view k) first)) (sym is) (subst IsSome (sym (run_is first run first)) (run_some first run some))

pub cut_nothing : (kept : Kept) (place : ℕ) → kept ≡ Nothing → (p : ℕ) → patch_of (kept_view kept) p ≡ cut_patch place (patch_of (kept_view kept)) p
cut_nothing kept place is p = subst (λ k. patch_of (kept_view k) p ≡ cut_patch place (patch_of (kept_view k)) p) (sym is) (by (nat_lt p place))
  where
    by : (b : Bool) → patch_of (kept_view Nothing) p ≡ cond b (patch_of (kept_view Nothing) p) None
    by true = refl
    by false = refl

pub cut_run : (kept : Kept) (first place : ℕ) (run new : List ℕ) → kept ≡ Run first run → new ≡ take (place - first) run → (p : ℕ) → patch_of (run_at first new) p ≡ cut_patch place (patch_of (kept_view kept)) p
cut_run kept first place run new is cut p =
    run_is first new p
    ∙ ap (λ (r : List ℕ). put_patch first r blank p) cut
    ∙ run_cut first place run p
    ∙ ap (λ t. cond (nat_lt p place) t None) (sym (run_is first run p) ∙ ap (λ k. patch_of (kept_view k) p) (sym is))

-- what holds of the answer, said otherwise
pub said_of_ok : {E : Type 0} (r : Result Kept E) (P Q : Kept → Type 0) → ((k : Kept) → P k → Q k) → IfOk r P → IfOk r Q
said_of_ok (Ok k) P Q more told = more k told
said_of_ok (Err e) P Q more told = tt

-- what holds anyway holds of an error
pub said_of_error : {T E P : Type 0} (r : Result T E) → P → OnErr r P
said_of_error (Ok x) holds = tt
said_of_error (Err e) holds = holds
