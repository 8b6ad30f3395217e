use Rattle.std.proofs.Common.{◌≡◌, ◌++◌, drop, string_bytes}
use Rattle.job.specs.Printed.{spaced}
use Rattle.job.proofs.report.push_places.Given as goal

-- what is written, and then the places that are left
abbrev pub invariant-loop-place : goal.invariant-loop-place
invariant-loop-place l = string_bytes l.text ++ spaced (drop l.place-index l.places) ≡ string_bytes l.initial.text ++ spaced l.places
