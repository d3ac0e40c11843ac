-- The laws of records: what is read is spelled so, what is spelled is read, and no spelling begins another.
use Rattle.std.proofs.Common.{◌≡◌, ℕ, zero, suc, ◌+◌, ◌^◌, ◌<◌, ◌≤◌, Bool, true, false, cond, leb, eqb, List, [], ◌∷◌, ◌++◌, length, drop, Option, Some, None, refl, sym, ap, subst, ◌∙◌, append_assoc, arith, ◌&&◌}
use Rattle.std.specs.List.{flat_map, AllByRecursion}
use Rattle.std.proofs.lemmas.Bool.{leb-true, le-leb, eqb-true}
use Rattle.std.proofs.lemmas.List.{append-nil, nil_from_length, length-append, drop_at}
use Rattle.std.proofs.lemmas.List.Concat.{flat_map-cons}
use Rattle.file_graph.specs.declared.effect.Effect.{Effect}
use Rattle.log_record.specs.declared.format.Record.{Record}
use Rattle.log_record.specs.declared.format.TheConstants.{MAX_EFFECTS}
use Rattle.log_record.specs.Grammar.{◌>>=◌, AreBytes, FitsLimits, IsRecord, record_bytes, u32, effect_bytes, byte_at, number_at, effect_at, effects_at, header_at, record_at, record_of, Begins, NoneBegins}
use Rattle.std.specs.Prelude.{option_map, is_some, ◌-◌}
use Rattle.log_record.proofs.Fields.{bind_some, test_some, some_is, Takes, Takes-then, u32_takes, u32_again, byte_takes}
use Rattle.log_record.proofs.Effects.{and_parts, effect_takes, effect_again}

-- ---- effects

pub record TakesAll (n : ℕ) (bytes : List ℕ) (es : List Effect) (rest : List ℕ) : Type 0 where
  pub takes : Takes bytes (flat_map effect_bytes es) rest
  pub count : length es ≡ n
  pub fit : AllByRecursion FitsLimits es

effects_take : (n : ℕ) (bytes : List ℕ) (x : List Effect × List ℕ) → AreBytes bytes → effects_at n bytes ≡ Some x → TakesAll n bytes x.0 x.1
unfolding effects_at
effects_take zero bytes x are e = subst (λ (y : List Effect × List ℕ). TakesAll 0 bytes y.0 y.1) (some_is ([], bytes) x e) (record { takes = record { parts = refl; behind = are }; count = refl; fit = tt })
effects_take (suc n) bytes x are e =
    let a = bind_some (effect_at bytes) (λ first. effects_at n first.1 >>= λ others. Some (first.0 ∷ others.0, others.1)) x e in
    let b = bind_some (effects_at n a.0.1) (λ others. Some (a.0.0 ∷ others.0, others.1)) x a.2 in
    let first = effect_takes bytes a.0 are a.1 in
    let second = effects_take n a.0.1 b.0 first.0.behind b.1 in
    let both = Takes-then bytes (effect_bytes a.0.0) a.0.1 (flat_map effect_bytes b.0.0) b.0.1 first.0 second.takes in
    let made : List Effect × List ℕ = (a.0.0 ∷ b.0.0, b.0.1) in
    subst (λ (y : List Effect × List ℕ). TakesAll (suc n) bytes y.0 y.1) (some_is made x b.2) (record { takes = rw flat_map-cons both; count = ap suc second.count; fit = (first.1, second.fit) })

effects_again : (es : List Effect) (rest : List ℕ) → AllByRecursion FitsLimits es → effects_at (length es) (flat_map effect_bytes es ++ rest) ≡ Some (es, rest)
unfolding effects_at
effects_again [] rest h = refl
effects_again (e ∷ es) rest h =
    let regrouped : flat_map effect_bytes (e ∷ es) ++ rest ≡ effect_bytes e ++ (flat_map effect_bytes es ++ rest) = ap (λ (t : List ℕ). t ++ rest) (flat_map-cons effect_bytes e es) ∙ append_assoc (effect_bytes e) (flat_map effect_bytes es) rest in
    ap (effects_at (suc (length es))) regrouped ∙ rw (effect_again e (flat_map effect_bytes es ++ rest) h.0, effects_again es rest h.1) refl

-- ---- headers

record TakesHeader (bytes : List ℕ) (units count : ℕ) (rest : List ℕ) : Type 0 where
  takes : Takes bytes (u32 units ++ count ∷ []) rest
  units_fit : units < 2 ^ 32
  some : 1 ≤ count
  few : count ≤ MAX_EFFECTS

header_takes : (bytes : List ℕ) (x : (ℕ × ℕ) × List ℕ) → AreBytes bytes → header_at bytes ≡ Some x → TakesHeader bytes x.0.0 x.0.1 x.1
unfolding header_at
header_takes bytes x are e =
    let a = bind_some (number_at 4 bytes) (λ units. byte_at units.1 >>= λ count. cond (leb 1 count.0 && leb count.0 8) (Some ((units.0, count.0), count.1)) None) x e in
    let b = bind_some (byte_at a.0.1) (λ count. cond (leb 1 count.0 && leb count.0 8) (Some ((a.0.0, count.0), count.1)) None) x a.2 in
    let made : (ℕ × ℕ) × List ℕ = ((a.0.0, b.0.0), b.0.1) in
    let g = test_some (leb 1 b.0.0 && leb b.0.0 8) made x b.2 in
    let t0 = u32_takes bytes a.0 are a.1 in
    let t1 = byte_takes a.0.1 b.0 t0.0.behind b.1 in
    let p = and_parts (leb 1 b.0.0) (leb b.0.0 8) g.0 in
    subst (λ (y : (ℕ × ℕ) × List ℕ). TakesHeader bytes y.0.0 y.0.1 y.1) g.1 (record {
      takes = Takes-then bytes (u32 a.0.0) a.0.1 (b.0.0 ∷ []) b.0.1 t0.0 t1;
      units_fit = omega (arith, t0.1);
      some = leb-true _ _ p.0;
      few = leb-true _ _ p.1;
    })

header_again : (units count : ℕ) (rest : List ℕ) → units < 2 ^ 32 → 1 ≤ count → count ≤ MAX_EFFECTS → header_at (u32 units ++ count ∷ rest) ≡ Some ((units, count), rest)
unfolding header_at
header_again units count rest small some few = rw (u32_again units (count ∷ rest) small, le-leb 1 count some, le-leb count 8 few) refl

-- ---- records

pub record_takes : (bytes : List ℕ) (x : Record × List ℕ) → AreBytes bytes → record_at bytes ≡ Some x → IsRecord x.0 × (bytes ≡ record_bytes x.0 ++ x.1)
unfolding record_at
record_takes bytes x are e =
    let a = bind_some (header_at bytes) (λ h. effects_at h.0.1 h.1 >>= λ es. Some (record { units = h.0.0; effects = es.0 }, es.1)) x e in
    let b = bind_some (effects_at a.0.0.1 a.0.1) (λ es. Some (record { units = a.0.0.0; effects = es.0 }, es.1)) x a.2 in
    let head = header_takes bytes a.0 are a.1 in
    let body = effects_take a.0.0.1 a.0.1 b.0 head.takes.behind b.1 in
    let both = (Takes-then bytes (u32 a.0.0.0 ++ a.0.0.1 ∷ []) a.0.1 (flat_map effect_bytes b.0.0) b.0.1 head.takes body.takes).parts in
    let regrouped : (u32 a.0.0.0 ++ a.0.0.1 ∷ []) ++ flat_map effect_bytes b.0.0 ≡ u32 a.0.0.0 ++ a.0.0.1 ∷ flat_map effect_bytes b.0.0 = append_assoc (u32 a.0.0.0) (a.0.0.1 ∷ []) (flat_map effect_bytes b.0.0) in
    let counted : u32 a.0.0.0 ++ a.0.0.1 ∷ flat_map effect_bytes b.0.0 ≡ u32 a.0.0.0 ++ length b.0.0 ∷ flat_map effect_bytes b.0.0 = ap (λ (n : ℕ). u32 a.0.0.0 ++ n ∷ flat_map effect_bytes b.0.0) (sym body.count) in
    let made : Record × List ℕ = (record { units = a.0.0.0; effects = b.0.0 }, b.0.1) in
    subst (λ (y : Record × List ℕ). IsRecord y.0 × (bytes ≡ record_bytes y.0 ++ y.1)) (some_is made x b.2)
    (record { units = head.units_fit; some = omega (arith, head.some, body.count); few = omega (arith, head.few, body.count); fit = body.fit }, both ∙ ap (λ (t : List ℕ). t ++ b.0.1) (regrouped ∙ counted))

pub record_again : (r : Record) (rest : List ℕ) → IsRecord r → record_at (record_bytes r ++ rest) ≡ Some (r, rest)
unfolding record_at
record_again r rest is =
    let regrouped : record_bytes r ++ rest ≡ u32 r.units ++ length r.effects ∷ (flat_map effect_bytes r.effects ++ rest) = append_assoc (u32 r.units) (length r.effects ∷ flat_map effect_bytes r.effects) rest in
    ap record_at regrouped ∙ rw (header_again r.units (length r.effects) (flat_map effect_bytes r.effects ++ rest) is.units is.some is.few, effects_again r.effects rest is.fit) refl

pub record_of_takes : (bytes : List ℕ) (r : Record) → AreBytes bytes → record_of bytes ≡ Some r → IsRecord r × (bytes ≡ record_bytes r)
unfolding record_of
record_of_takes bytes r are e =
    let a = bind_some (record_at bytes) (λ x. cond (eqb (length x.1) 0) (Some x.0) None) r e in
    let g = test_some (eqb (length a.0.1) 0) a.0.0 r a.2 in
    let nothing : a.0.1 ≡ [] = nil_from_length a.0.1 (eqb-true _ _ g.0) in
    let t = record_takes bytes a.0 are a.1 in
    subst (λ (y : Record). IsRecord y × (bytes ≡ record_bytes y)) g.1 (t.0, t.1 ∙ ap (λ (w : List ℕ). record_bytes a.0.0 ++ w) nothing ∙ append-nil (record_bytes a.0.0))

pub record_of_again : (r : Record) → IsRecord r → record_of (record_bytes r) ≡ Some r
unfolding record_of
record_of_again r is =
    let front : record_at (record_bytes r) ≡ Some (r, []) = ap record_at (sym (append-nil (record_bytes r))) ∙ record_again r [] is in
    rw front refl

pub one_spelling : (r s : Record) (x y : List ℕ) → IsRecord r → IsRecord s → record_bytes r ++ x ≡ record_bytes s ++ y → (r ≡ s) × (x ≡ y)
one_spelling r s x y is are e =
    let same : (r, x) ≡ (s, y) = some_is (r, x) (s, y) (sym (record_again r x is) ∙ ap record_at e ∙ record_again s y are) in
    (ap (λ (p : Record × List ℕ). p.0) same, ap (λ (p : Record × List ℕ). p.1) same)

-- ---- what the readers of the code answer

-- a record at the front, and how many bytes spell it
pub record IsFront (bytes : List ℕ) (r : Record) (rest : List ℕ) : Type 0 where
  pub within : length rest ≤ length bytes
  pub begins : Begins bytes r (length bytes - length rest)
  pub after : drop (length bytes - length rest) bytes ≡ rest

pub front_is : (bytes : List ℕ) (r : Record) (rest : List ℕ) → AreBytes bytes → record_at bytes ≡ Some (r, rest) → IsFront bytes r rest
front_is bytes r rest are e =
    let t = record_takes bytes (r, rest) are e in
    let long : length bytes ≡ length (record_bytes r) + length rest = ap length t.1 ∙ length-append (record_bytes r) rest in
    let count : length bytes - length rest ≡ length (record_bytes r) = omega (arith, long) in
    let after : drop (length bytes - length rest) bytes ≡ rest = ap (drop (length bytes - length rest)) t.1 ∙ drop_at (record_bytes r) rest (length bytes - length rest) (sym count) in
    record { within = omega (arith, long); begins = record { is = t.0; front = t.1 ∙ ap (λ (w : List ℕ). record_bytes r ++ w) (sym after); count = count }; after = after }

pub none_begins : (bytes : List ℕ) → record_at bytes ≡ None → NoneBegins bytes
none_begins bytes none r rest is e =
    let found : record_at bytes ≡ Some (r, rest) = ap record_at e ∙ record_again r rest is in
    absurd cc

pub payload_at_end : (bytes : List ℕ) (r : Record) → record_at bytes ≡ Some (r, []) → record_of bytes ≡ Some r
unfolding record_of
payload_at_end bytes r e = rw e refl

pub no_payload_before_end : (bytes : List ℕ) (r : Record) (rest : List ℕ) → record_at bytes ≡ Some (r, rest) → eqb (length rest) 0 ≡ false → record_of bytes ≡ None
unfolding record_of
no_payload_before_end bytes r rest e more = rw (e, more) refl

pub no_payload_at_none : (bytes : List ℕ) → record_at bytes ≡ None → record_of bytes ≡ None
unfolding record_of
no_payload_at_none bytes e = rw e refl

is_some-cond : {A : Type 0} (b : Bool) (x : A) → is_some (cond b (Some x) None) ≡ b
is_some-cond true x = refl
is_some-cond false x = refl

ended : (read : Option (Record × List ℕ)) (rest : List ℕ) → option_map (λ x. x.1) read ≡ Some rest → is_some (read >>= λ r. cond (eqb (length r.1) 0) (Some r.0) None) ≡ eqb (length rest) 0
ended (Some x) rest e = is_some-cond (eqb (length x.1) 0) x.0 ∙ ap (λ (w : List ℕ). eqb (length w) 0) (some_is x.1 rest e)
ended None rest e = absurd cc

broken : (read : Option (Record × List ℕ)) → option_map (λ x. x.1) read ≡ None → is_some (read >>= λ r. cond (eqb (length r.1) 0) (Some r.0) None) ≡ false
broken (Some x) e = absurd cc
broken None e = refl

pub is_payload-at_end : (bytes rest : List ℕ) → option_map (λ x. x.1) (record_at bytes) ≡ Some rest → is_some (record_of bytes) ≡ eqb (length rest) 0
unfolding record_of
is_payload-at_end bytes rest e = ended (record_at bytes) rest e

pub is_payload-none : (bytes : List ℕ) → option_map (λ x. x.1) (record_at bytes) ≡ None → is_some (record_of bytes) ≡ false
unfolding record_of
is_payload-none bytes e = broken (record_at bytes) e
