use Rattle.std.proofs.Common.{◌≡◌, [], length, Ok, sym, ap, ◌∙◌, arith}
use Rattle.runs.specs.Words.{words}
use Rattle.runs.specs.Signatures.{pattern_of}
use Rattle.engines.specs.Memory.{Recalls, Chain}
use Rattle.search.specs.Sheets.{bearing}
use Rattle.search.proofs.Searched.{searched, bearing_hits, granted}
use Rattle.search.proofs.searching.search.Goals as goal

pub returns : goal.returns
returns g c =
    let sets = g.G.Gauge.sets c.args.gauge.now in
    let s = c.args.signature.now in
    let xs = c.args.readings.now in
    let told = c.in_ok-check_opening.ensures in
    let ok = granted g.E.Engine.LIMIT (length xs) (length c.args.sheet.now) s told in
    let fits = c.try_all.new.sheet in
    let ws = c.stretch.new.words in
    let says = g.E.Engine.says c.make.new.self in
    let blank : Recalls s [] says = c.make.ensures.memory in
    let chain : Chain s says fits ws (g.E.Engine.says c.stretch.new.self) = rw c.make.ensures.shape at c.stretch.ensures.chain in
    let is : ws ≡ words (pattern_of sets s) xs = searched sets s ok.1 xs fits ws says c.try_all.ensures blank _ (omega (arith, ok.0, c.try_all.auto.sheet)) chain in
    let hits = c.count_marked.ensures ∙ ap (bearing _) is ∙ bearing_hits sets s ok.1 xs in
    rw (sym told) (record { value = ap Ok hits; sheet = is })
