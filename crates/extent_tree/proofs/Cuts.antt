-- Parts of lists of extents.
use Rattle.std.proofs.Common.{◌≡◌, ◌≤◌, ◌<◌, ℕ, ◌+◌, ◌-◌, max, min, List, [], ◌∷◌, ◌++◌, length, get_or, take, drop, sym, ap, ◌∙◌, arith, subst, append_assoc}
use Rattle.std.specs.Prelude.{nat_lt}
use Rattle.std.proofs.lemmas.Bool.{lt-ltb, le-ltb, cond-true, cond-false}
use Rattle.std.proofs.lemmas.List.{append-nil, take_more, take_all, drop_more}
use Rattle.std.proofs.lemmas.List.Concat.{flat_map-append}
use Rattle.layout.specs.declared.extents.Extent.{Extent}
use Rattle.extent_tree.specs.Normal.{IsRising, Joins}
use Rattle.extent_tree.specs.Parts.{cut, within_range, part}
use Rattle.extent_tree.proofs.Rising.{rising-wider}
use Rattle.extent_tree.proofs.Joined.{joins-more, joins-wider}

-- ---- the part of one extent

pub within-some : (from to : ℕ) (e : Extent) → max e.logical from < min (e.logical + e.length) to → within_range from to e ≡ cut (max e.logical from) (min (e.logical + e.length) to) e ∷ []
within-some from to e lt = cond-true (nat_lt (max e.logical from) (min (e.logical + e.length) to)) _ _ (lt-ltb _ _ lt)

pub within-none : (from to : ℕ) (e : Extent) → min (e.logical + e.length) to ≤ max e.logical from → within_range from to e ≡ []
within-none from to e le = cond-false (nat_lt (max e.logical from) (min (e.logical + e.length) to)) _ _ (le-ltb _ _ le)

pub part-more : (from to i : ℕ) (es : List Extent) (d : Extent) → i < length es → part from to (take (i + 1) es) ≡ part from to (take i es) ++ within_range from to (get_or es i d)
part-more from to i es d lt =
    ap (part from to) (take_more es i d lt) ∙ flat_map-append (within_range from to) (take i es) (get_or es i d ∷ [])
    ∙ ap (λ l. part from to (take i es) ++ l) (append-nil (within_range from to (get_or es i d)))

-- ---- a list to which parts of others are put, one after the other

-- so many of the extents are done; the others rise from some block on, and the list ends by it
abbrev pub Partly : ℕ → ℕ → ℕ → List Extent → List Extent → List Extent → Type 0
Partly from to i more start acc = (low : ℕ) × IsRising low 4294967295 (drop i more) × Joins (max from (min low to)) (start ++ part from to (take i more)) acc

pub partly-rising : (from to i begin : ℕ) (more start acc : List Extent) (d : Extent) → i < length more → begin ≡ max (get_or more i d).logical from → Partly from to i more start acc → IsRising 0 begin acc
partly-rising from to i begin more start acc d lt is done =
    let rest = subst (IsRising done.0 4294967295) (drop_more more i d lt) done.1 in
    rising-wider 0 (max from (min done.0 to)) 0 begin acc done.2.rising (omega arith) (omega (arith, rest.0, is))

partly-next : (from to i : ℕ) (more start acc : List Extent) (d : Extent) → i < length more → IsRising ((get_or more i d).logical + (get_or more i d).length) 4294967295 (drop (i + 1) more)
    → Joins (max from (min ((get_or more i d).logical + (get_or more i d).length) to)) ((start ++ part from to (take i more)) ++ within_range from to (get_or more i d)) acc → Partly from to (i + 1) more start acc
partly-next from to i more start acc d lt rest joins =
    let e = get_or more i d in
    let whole : (start ++ part from to (take i more)) ++ within_range from to e ≡ start ++ part from to (take (i + 1) more) = append_assoc start (part from to (take i more)) (within_range from to e) ∙ ap (λ l. start ++ l) (sym (part-more from to i more d lt)) in
    (e.logical + e.length, rest, subst (λ l. Joins (max from (min (e.logical + e.length) to)) l acc) whole joins)

pub partly-piece : (from to i begin stop : ℕ) (more start acc new : List Extent) (d : Extent) → i < length more → begin ≡ max (get_or more i d).logical from → stop ≡ min ((get_or more i d).logical + (get_or more i d).length) to → begin < stop → Partly from to i more start acc → Joins (begin + (stop - begin)) (acc ++ cut begin stop (get_or more i d) ∷ []) new → Partly from to (i + 1) more start new
partly-piece from to i begin stop more start acc new d lt is_begin is_stop some done joins =
    let e = get_or more i d in
    let rest = subst (IsRising done.0 4294967295) (drop_more more i d lt) done.1 in
    let source = start ++ part from to (take i more) in
    let one : cut begin stop e ∷ [] ≡ within_range from to e = (λ k. cut (is_begin k) (is_stop k) e ∷ []) ∙ sym (within-some from to e (omega (arith, some, is_begin, is_stop))) in
    let ends : begin + (stop - begin) ≡ stop = omega (arith, some) in
    let all = joins-more (max from (min done.0 to)) stop source acc (cut begin stop e ∷ []) new done.2 (subst (λ n. Joins n (acc ++ cut begin stop e ∷ []) new) ends joins) in
    partly-next from to i more start new d lt rest.3
    (joins-wider stop (max from (min (e.logical + e.length) to)) (source ++ within_range from to e) new (subst (λ l. Joins stop (source ++ l) new) one all) (omega (arith, is_stop)))

pub partly-skipped : (from to i begin stop : ℕ) (more start acc : List Extent) (d : Extent) → i < length more → begin ≡ max (get_or more i d).logical from → stop ≡ min ((get_or more i d).logical + (get_or more i d).length) to → stop ≤ begin → Partly from to i more start acc → Partly from to (i + 1) more start acc
partly-skipped from to i begin stop more start acc d lt is_begin is_stop nothing done =
    let e = get_or more i d in
    let rest = subst (IsRising done.0 4294967295) (drop_more more i d lt) done.1 in
    let source = start ++ part from to (take i more) in
    let same : source ≡ source ++ within_range from to e = sym (ap (λ l. source ++ l) (within-none from to e (omega (arith, nothing, is_begin, is_stop))) ∙ append-nil source) in
    partly-next from to i more start acc d lt rest.3
    (joins-wider (max from (min done.0 to)) (max from (min (e.logical + e.length) to)) (source ++ within_range from to e) acc (subst (λ l. Joins (max from (min done.0 to)) l acc) same done.2) (omega (arith, rest.0)))

pub partly-all : (from to i : ℕ) (more start acc : List Extent) → from ≤ to → length more ≤ i → Partly from to i more start acc → Joins to (start ++ part from to more) acc
partly-all from to i more start acc le all done =
    let whole : start ++ part from to (take i more) ≡ start ++ part from to more = ap (λ l. start ++ part from to l) (take_all i more all) in
    joins-wider (max from (min done.0 to)) to (start ++ part from to more) acc (subst (λ l. Joins (max from (min done.0 to)) l acc) whole done.2) (omega (arith, le))
