use Rattle.std.proofs.Common.{refl}
use Rattle.runs.specs.Words.{mark, word, before, trace, reworked}
use Rattle.runs.proofs.laws.sheets.Goals as goal

pub returns : goal.returns
unfolding mark word before trace reworked
returns c = record {
  six_words = (refl, refl, refl);
  amended_first = refl;
  amended_idle = refl;
  end_kept = (refl, refl);
  older_end = (refl, refl);
  too_near = refl;
  too_far = (refl, refl);
  both_slots = refl;
  currents = refl;
}
