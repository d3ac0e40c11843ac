-- What entries are after changes, name by name.
use Rattle.std.proofs.Common.{◌≡◌, ℕ, cond, Bool, true, false, List, [], ◌∷◌, refl, Some, None, Option, ap, sym, ◌∙◌}
use Rattle.std.specs.Ordering.{nat_cmp, eq_by_cmp}
use Rattle.std.specs.Cmp.Lexicographic.{slice_cmp, nat_list_cmp_total}
use Rattle.std.specs.FinMap as fin
use Rattle.posix_calls.specs.Content.{Entries}
use Rattle.graph_change.specs.Net.{Child, EntryChanges, with_entry, with_entries, entries_after}

pub names_same : fin.IsAntisymmetric (slice_cmp nat_cmp)
names_same = fin.slice_cmp-IsAntisymmetric fin.nat_cmp-IsAntisymmetric

-- the last word on a name, or what stood there
abbrev pub or_old : {A : Type 0} → Option A → A → A
or_old None old = old
or_old (Some x) old = x

or_cond : {A : Type 0} (b : Bool) (x old : A) (o : Option A) → or_old (cond b (Some x) o) old ≡ cond b x (or_old o old)
or_cond true x old o = refl
or_cond false x old o = refl

-- what one change leaves at a name
get_entry : (name : List ℕ) (what : Option Child) (es : Entries Child) (q : List ℕ) → fin.get (with_entry name what es) q ≡ cond (eq_by_cmp (slice_cmp nat_cmp) q name) what (fin.get es q)
get_entry name None es q = fin.get-remove nat_list_cmp_total es name q
get_entry name (Some x) es q = fin.get-insert nat_list_cmp_total es name x q

-- and many
get_entries : (cs : List (List ℕ × Option Child)) (es : Entries Child) (q : List ℕ) → fin.get (with_entries cs es) q ≡ or_old (fin.find (slice_cmp nat_cmp) q cs) (fin.get es q)
get_entries [] es q = refl
get_entries (c ∷ cs) es q =
    get_entry c.0 c.1 (with_entries cs es) q
    ∙ ap (cond (eq_by_cmp (slice_cmp nat_cmp) q c.0) c.1) (get_entries cs es q)
    ∙ sym (or_cond (eq_by_cmp (slice_cmp nat_cmp) q c.0) c.1 (fin.get es q) (fin.find (slice_cmp nat_cmp) q cs))

pub get_after : (cs : EntryChanges) (es : Entries Child) (q : List ℕ) → fin.get (entries_after cs es) q ≡ or_old (fin.get cs q) (fin.get es q)
get_after cs es q = get_entries (fin.entries cs) es q ∙ ap (λ o. or_old o (fin.get es q)) (sym (fin.get-entries cs q))

-- one more change is made last
pub entries_law : (name : List ℕ) (what : Option Child) (cs : EntryChanges) (es : Entries Child) → entries_after (fin.insert cs name what) es ≡ with_entry name what (entries_after cs es)
entries_law name what cs es = fin.same_map nat_list_cmp_total names_same _ _ (λ q.
    get_after (fin.insert cs name what) es q
    ∙ ap (λ o. or_old o (fin.get es q)) (fin.get-insert nat_list_cmp_total cs name what q)
    ∙ or_cond (eq_by_cmp (slice_cmp nat_cmp) q name) what (fin.get es q) (fin.get cs q)
    ∙ sym (get_entry name what (entries_after cs es) q ∙ ap (cond (eq_by_cmp (slice_cmp nat_cmp) q name) what) (get_after cs es q)))

-- no change leaves all
pub no_entries : (es : Entries Child) → entries_after fin.empty es ≡ es
no_entries es = fin.same_map nat_list_cmp_total names_same _ _ (λ q. get_after fin.empty es q ∙ ap (λ o. or_old o (fin.get es q)) (fin.get-empty (slice_cmp nat_cmp) q))
