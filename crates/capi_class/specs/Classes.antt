-- The class at a position as numbers: what its export hands out.
use Rattle.std.specs.Prelude.{ℕ, List, [], Result, Ok, Err}
use Rattle.refusals.specs.declared.Refusal.{Refusal}
use Rattle.rules.specs.Classes.{class_numbers}
use Rattle.rules.specs.declared.Class.{Class}

-- "class; claimed sequence, claimed id, claimed index"
unfoldable pub told_numbers : Result Class Refusal → List ℕ
told_numbers (Err e) = []
told_numbers (Ok c) = class_numbers c
