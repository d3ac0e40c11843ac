-- The body makes a value of no bytes, which the walk gives the calls that the clauses name.
use Rattle.std.proofs.Common.{[], ◌∷◌, refl}
use Rattle.host_media.specs.FileBytes.{untold}
use mir.Val.{Val, vstruct, vnil, vptr}
use base.Logic.{SProp}
use types.Kit.{‵, raw, ◌⊛◌, ◌$◌, ◌∵◌, !, qed, done, move, keep, split, fjoin, suffices}
use types.Part.{agg}
use types.Run.{enter, returns, no_more}
use types.ByLocal.{alloc_all, pass_all, free_all, look_at, sets}
use contract.Running.{tables}
use denote.Builtin.{RefOf}
use denote.Exit.{yes}
use denote.RattleType.{owns}
use denote.Ref.{shr_vals, shr_Tells}
use denote.Shadow.{pure_i}
use denote.Signature.{plain, types_at}
use mir.Syntax.{named}
use denote.Steps.{nothing}
use denote.Triple.Entry.{alive}
use denote.Triple.Walked.{Stays, walk_of, says, stay_dropped, Goes-dropped, ends_at}
use Rattle.std.proofs.raw_atomic.Walks.{proved}
use Rattle.host_media.specs.contracts.sizes.Sizes as Sizes
use Rattle.host_media.specs.contracts.known_bytes.KnownBytes as Bytes
use Rattle.host_media.specs.contracts.known_bytes.KnownBytes.of as f
use Rattle.host_media.proofs.known_bytes.KnownBytes.of.Statement.{statement}
use Rattle.host_media.proofs.known_bytes.KnownBytes.of.Code as code

pub of_spec : {M : Type 1} → statement M
of_spec 𝓤 𝓛 𝓜 𝓡 wired =
    let c = f.clauses 𝓛 𝓜.mem 𝓡.returns in let 𝓣 = tables 𝓤 𝓛.H 𝓜 𝓡 𝓡.env in
    let sizes = RefOf (0 ∷ []) tt (plain (λ _. Sizes.the_row)) (λ _. tt) in
    let stayed : Stays f.ended.signature.params f.ended.kept = (stay_dropped sizes yes, tt) in
    proved 𝓛 f.ended stayed c 𝓜 𝓡 (Goes-dropped 𝓛 1 sizes yes (λ κs x w. refl), tt)
    f.Key.name code.function (code.unfolded 𝓤 𝓛.H 𝓜 𝓡 wired)
    (λ κs. (shr_vals, tt)) (λ κs. (shr_Tells (named 0) κs.0 Sizes.the_row, tt)) (λ κs qs bounds a g are.
    let p : Val = vptr a.0.ref_ptr.0 a.0.ref_ptr.1 in
    let made : Bytes.the_row.Denot = record { noted = untold a.0.now } in
    let y : (walk_of 𝓛 f.ended stayed c).Ghost = ((κs, qs, bounds, a, (p ∷ [], tt)), g) in
    let Post : Val → SProp 𝓤 = (walk_of 𝓛 f.ended stayed c).post y in
    qed 𝓛 ((raw (alive 𝓛 f.ended.signature κs qs) ⊛ ‵ (owns (types_at f.ended.signature.params κs) a y.0.4)) ∷ raw ((c κs a).requires g) ∷ []) ∵
    split ! $ keep ! (0 ∷ []) $
    enter ! 𝓣.C 𝓣.Λ code.function (p ∷ []) Post $ alloc_all ! (λ l. pass_all ! refl ((tt, tt), tt) $
    sets ! (agg ! (no_more !)) refl (tt, tt) $
    pure_i ! (Bytes.the_row.own_val made (vstruct vnil ∷ [])) ((λ vss. (tt, tt)), tt) ((tt, (refl, tt)), tt) $
    returns ! (look_at ! 0 refl) $ free_all ! refl $
    suffices ! _ (ends_at 𝓛 f.ended stayed c y (vstruct vnil) made (tt, tt) (tt, tt)) $ says ! refl $ nothing ! $ nothing ! $ fjoin ! $ move ! (2 ∷ 0 ∷ 1 ∷ []) $ done !))
