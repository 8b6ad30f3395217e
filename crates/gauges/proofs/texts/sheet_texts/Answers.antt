use Rattle.gauges.proofs.Sheets.{pair_read, triple_read, apart_read, twice_read, current_read}
use Rattle.gauges.proofs.texts.sheet_texts.Goals as goal

pub returns : goal.returns
returns c = record { pair_text = pair_read; triple_text = triple_read; apart_text = apart_read; twice_text = twice_read; current_text = current_read }
