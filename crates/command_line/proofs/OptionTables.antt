-- A table of options is a simple command, whatever stands in it.
use Rattle.std.proofs.Common.{◌≡◌, ◌∙◌, ◌++◌, ◌&&◌, ◌<◌, ◌+◌, ℕ, Bool, true, false, not, List, [], ◌∷◌, ap, length, refl, sym, take, get_or}
use Rattle.std.specs.List.{list_all, list_any}
use Rattle.std.proofs.lemmas.List.{map-append, take_more}
use Rattle.clap.specs.Simple.{filled_from, help_rule, with_rule}
use Rattle.clap.specs.Walk.{is_early_multiple}
use Rattle.clap.specs.Words.{Rule, Text, is_simple, is_simple_and_free}
use Rattle.command_line.specs.Options.{option_of, program_with, rules_in}
use Rattle.command_line.specs.declared.option_table.ProgramOption.{ProgramOption}

-- the rules of a program that is built
abbrev built_rules : List ProgramOption → List Rule
built_rules os = filled_from 1 (rules_in os ++ help_rule ∷ [])

both : {a b : Bool} → a ≡ true → b ≡ true → (a && b) ≡ true
both x y = rw (x, y) refl

plain_before : (os : List ProgramOption) → list_all (λ (r : Rule). r.is_simple) (rules_in os) ≡ true
plain_before [] = refl
plain_before (o ∷ os) = plain_before os

plain : (os : List ProgramOption) → list_all (λ (r : Rule). r.is_simple) (built_rules os) ≡ true
plain [] = refl
plain (o ∷ os) = plain os

free : (os : List ProgramOption) → list_all (λ (r : Rule). r.is_free) (built_rules os) ≡ true
free [] = refl
free (o ∷ os) = free os

in_order : (n : ℕ) (os : List ProgramOption) → list_any (is_early_multiple n) (built_rules os) ≡ false
in_order n [] = refl
in_order n (o ∷ os) = in_order n os

pub table_is_simple : (name : Text) (os : List ProgramOption) → is_simple (program_with name (rules_in os)) ≡ true
table_is_simple name os = both (both (plain_before os) refl) (both (both (plain os) (ap not (in_order _ os))) refl)

pub table_is_free : (name : Text) (os : List ProgramOption) → is_simple_and_free (program_with name (rules_in os)) ≡ true
table_is_free name os = both (table_is_simple name os) (both (free os) refl)

-- one more option is one more rule
pub one_more : (name : Text) (os : List ProgramOption) (i : ℕ) (d : ProgramOption) → i < length os
    → with_rule (program_with name (rules_in (take i os))) (option_of (get_or os i d).name.now (get_or os i d).value)
    ≡ program_with name (rules_in (take (i + 1) os))
one_more name os i d low =
    ap (program_with name) (sym (ap rules_in (take_more os i d low)
    ∙ map-append (λ (o : ProgramOption). option_of o.name.now o.value) (take i os) (get_or os i d ∷ [])))
