use Rattle.std.proofs.Common.{◌≡◌, ℕ, ◌<◌, ◌≤◌, Bool, true, false, leb, List, length, is_err, Ok, Err, Result, sym, refl, ap, ◌∙◌, arith}
use Rattle.std.proofs.lemmas.Bool.Decides.{nat_tests}
use Rattle.text.specs.declared.refusal.Refusal.{Refusal}
use Rattle.text.specs.declared.refusal.Refusal.TheVariants.{LongText}
use Rattle.runs.specs.declared.signature.Signature.{Signature as Shape}
use Rattle.runs.specs.Signatures.{Blank}
use Rattle.signature.specs.Slots.{Reads, Within}
use Rattle.signature.specs.Outcomes.{Plan, slots_at, signature_at, Left, answer}
use Rattle.signature.specs.Grammar.{ReadsExactly, OnePlan}
use Rattle.signature.specs.Refused.{Looks, RefusedAlike, GoesOn, BeginsSome}
use Rattle.signature.proofs.Derived.{reads_exactly, one_plan, answers}
use Rattle.signature.proofs.Alike.{refused_alike}
use Rattle.signature.proofs.Begins.{begins_some}
use Rattle.signature.proofs.reader.read_signature.Goals as goal

short : {R : Type 0} (reads : Reads R) (s : List ℕ) → length s ≤ 4096 → signature_at reads s ≡ slots_at reads s
unfolding signature_at
short reads s l = let t : leb (length s) 4096 ≡ true = grind (arith, nat_tests) in rw t refl

long : {R : Type 0} (reads : Reads R) (s : List ℕ) → 4096 < length s → signature_at reads s ≡ Err LongText
unfolding signature_at
long reads s l = let t : leb (length s) 4096 ≡ false = grind (arith, nat_tests) in rw t refl

-- a refusal leaves nothing
cleared : {R : Type 0} (o : Result (Plan R) Refusal) (sets : ℕ → R → Bool) (s : Shape) → is_err (answer o) ≡ true
    → ((j : ℕ) → j < 32 → (x : R) → sets j x ≡ false) → Blank s → Left o sets s
cleared (Ok p) sets s is empty blank = cc
cleared (Err x) sets s is empty blank = record { held = empty; slots = blank.0; gaps = rw blank.0 refl; past = blank.1 }

-- what the reading promises of any text
theorems : {R : Type 0} (reads : Reads R) (s : List ℕ) → Within reads → ReadsExactly reads s × OnePlan reads s × (Looks reads → RefusedAlike reads s) × (GoesOn reads → BeginsSome reads s)
theorems reads s within = (reads_exactly reads s within, one_plan reads s, λ looks. refused_alike reads looks within s, λ goes. begins_some reads goes within s)

pub returns-then-text-gt-LONGEST : goal.returns-then-text-gt-LONGEST
returns-then-text-gt-LONGEST g c =
    let reads = g.G.WrittenGauge.reads in
    let s = c.args.text.now in
    let within = g.met.G.WrittenGauge.within in
    let is = long reads s c.if-text-gt-LONGEST.true in
    let value : Err LongText ≡ answer (signature_at reads s) = sym (ap answer is) in
    let left = cleared (signature_at reads s) _ _ (rw is refl) c.clear.ensures.empty c.clear.ensures.blank in
    let t = theorems reads s within in
    record { value = value; left = left; grammar = t.0; one = t.1; alike = t.2; begins = t.3; answers = answers reads s _ _ _ within value left }

pub returns-then-is_err : goal.returns-then-is_err
returns-then-is_err g c =
    let reads = g.G.WrittenGauge.reads in
    let s = c.args.text.now in
    let within = g.met.G.WrittenGauge.within in
    let is = short reads s c.if-text-gt-LONGEST.false in
    let value : c.read_slots-answer.result ≡ answer (signature_at reads s) = c.read_slots-answer.ensures.value ∙ sym (ap answer is) in
    let left = cleared (signature_at reads s) _ _ (ap is_err (sym value) ∙ sym c.if-is_err.ensures.value) c.clear-then-is_err.ensures.empty c.clear-then-is_err.ensures.blank in
    let t = theorems reads s within in
    record { value = value; left = left; grammar = t.0; one = t.1; alike = t.2; begins = t.3; answers = answers reads s _ _ _ within value left }

pub returns-else-is_err : goal.returns-else-is_err
returns-else-is_err g c =
    let reads = g.G.WrittenGauge.reads in
    let s = c.args.text.now in
    let within = g.met.G.WrittenGauge.within in
    let is = short reads s c.if-text-gt-LONGEST.false in
    let value : c.read_slots-answer.result ≡ answer (signature_at reads s) = c.read_slots-answer.ensures.value ∙ sym (ap answer is) in
    let left = rw (← is) at (c.read_slots-answer.ensures.left c.if-is_err.ensures.negation) in
    let t = theorems reads s within in
    record { value = value; left = left; grammar = t.0; one = t.1; alike = t.2; begins = t.3; answers = answers reads s _ _ _ within value left }
