use Rattle.std.proofs.Common.{◌≡◌, ℕ, ◌+◌, ◌-◌, ◌%◌, ◌^◌, ◌<◌, ◌≤◌, length, sym, ap, ◌∙◌, subst, arith}
use native.Mathlib.Nat.{mod-one}
use Rattle.std.proofs.lemmas.List.{get_or-take, length-take-le}
use Rattle.runs.specs.Signatures.{gaps_of}
use Rattle.runs.specs.Bits.{bit}
use Rattle.engines.specs.declared.layout.Field.{Field}
use Rattle.engines.specs.Fields.{fields_say, no_field}
use Rattle.engines.specs.Memory.{Moved}
use Rattle.engines.proofs.Bits.{bit_mod, mod_bit, mod_other, mod_skip}
use Rattle.engines.proofs.Recalled.{moved_word}
use Rattle.engines.proofs.Signatures.{gaps_length}
use Rattle.engines.proofs.Fields.{moved_none, moved_set}
use Rattle.engines.proofs.word.Word.push.Goals as goal
use Rattle.engines.proofs.word.Word.push.Goals.{then-bears, else-bears}

pub loop-j-init : goal.loop-j-init
loop-j-init c =
    let at = c.args.self.now.layout in
    moved_word at.shape.signature _ _ _ _ (λ j _. ap (λ w. bit w j) (sym (mod-one c.args.word))) (moved_none at.shape.signature at.room _ at.keep at.stays)

pub loop-j-preserved : goal.loop-j-preserved
loop-j-preserved c =
    let at = c.args.self.now.layout in
    let s = at.shape.signature in
    let j = c.loop-j.j in
    let word = c.args.word in
    let used : length c.used_gaps-used.result.now ≡ s.slots - 1 = ap length c.used_gaps-used.ensures ∙ gaps_length s in
    let lt : j < length c.used_gaps-used.result.now = omega (arith, c.loop-j-test.true, length-take-le (length c.used_gaps-used.result.now) at.fields (omega (arith, s.few))) in
    let start = ap (λ (f : Field). f.start) (get_or-take _ at.fields j no_field lt) in
    let M : ℕ → Type 0 = λ memory. Moved s (fields_say (gaps_of s) c.args.self.now.memory) (word % 2 ^ (j + 1)) (fields_say (gaps_of s) memory) in
    elim c.if-bears.branch [
      | then-bears w ↦ subst M (sym w.memory-is)
          (moved_set s _ _ _ _ j c.loop-j.invariant (mod_bit word j ∙ sym c.bears.ensures ∙ w.if-bears.true) (mod_other word j) _ (λ l. start ∙ at.begun j l) (λ l. start ∙ at.idle j l))
      | else-bears w ↦ subst M (sym w.memory-is)
          (moved_word s _ _ _ _ (λ i _. mod_skip word j i (sym c.bears.ensures ∙ w.if-bears.false)) c.loop-j.invariant)
    ]

pub returns-clause-memory : goal.returns-clause-memory
returns-clause-memory c =
    let s = c.args.self.now.layout.shape.signature in
    let n = c.loop-j.j in
    let used : length c.used_gaps-used.result.now ≡ s.slots - 1 = ap length c.used_gaps-used.ensures ∙ gaps_length s in
    let all : s.slots - 1 ≤ n = omega (arith, c.loop-j-test.false, length-take-le (length c.used_gaps-used.result.now) c.args.self.now.layout.fields (omega (arith, s.few))) in
    moved_word s _ _ _ _ (λ j l. bit_mod n c.args.word j (omega arith)) c.loop-j.invariant
