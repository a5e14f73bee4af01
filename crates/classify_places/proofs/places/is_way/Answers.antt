use mathlib.Core.Path.{◌≡◌, refl, sym, ap, ◌∙◌}
use mathlib.Core.Bool.{true, not}
use Rattle.rules.specs.declared.Way.{Way}
use Rattle.rules.specs.declared.Way.TheVariants.{NoWay, NewParent, Fill, Grow, Take}
use Rattle.rules.specs.Places.{is_way}
use Rattle.classify_places.proofs.places.is_way.Goals as goal
use Rattle.classify_places.proofs.places.is_way.Goals.{in-NoWay, in_default}

-- every way but none is one
some_way : (w : Way) → (w ≡ NoWay → ⊥) → true ≡ is_way w
unfolding is_way
some_way NoWay n = absurd (n refl)
some_way NewParent n = refl
some_way (Fill r) n = refl
some_way (Grow r) n = refl
some_way (Take r) n = refl

pub returns : goal.returns
unfolding is_way
returns c =
    elim c.match-matches.branch [
      | in-NoWay w ↦ ap not w.matches-is ∙ sym (ap is_way w.in-NoWay.is)
      | in_default w ↦ ap not w.matches-is ∙ some_way c.args.w w.in_default.not-NoWay
    ]
