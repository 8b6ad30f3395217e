use Rattle.std.proofs.Common.{◌≡◌, ◌-◌, ◌%◌, ◌≤◌, List, ◌++◌, ℕ, length, drop, replicate, refl, subst, sym, ap, arith, length-drop}
use Rattle.engines.specs.Memory.{Recalls}
use Rattle.engines.specs.Rings.{past_says}
use Rattle.engines.proofs.Recalled.{recalls_recent}
use Rattle.engines.proofs.Rings.{padded_recalls}
use Rattle.engines.proofs.ring.RingEngine.resume.Goals as goal

pub returns-clause-memory : goal.returns-clause-memory
returns-clause-memory c =
    let s = c.args.self.now.shape.signature in
    let ws = c.args.words.now in
    let recent = c.newest-recent.result.now in
    let few : length recent ≤ 64 = omega (arith, ap length c.newest-recent.ensures, length-drop (length ws - 64) ws) in
    let copied : c.copy_from_slice.new.self ≡ recent = c.copy_from_slice.ensures.after in
    let past : List ℕ → List ℕ = λ words. words ++ drop (length recent) (replicate 64 0) in
    let have : Recalls s recent (past_says (past recent) (length recent % 64)) = padded_recalls s recent few in
    subst (λ (words : List ℕ). Recalls s ws (past_says (past words) (length recent % 64))) (sym copied)
    (recalls_recent s ws _ _ refl (subst (λ (xs : List ℕ). Recalls s xs (past_says (past recent) (length recent % 64))) c.newest-recent.ensures have))
