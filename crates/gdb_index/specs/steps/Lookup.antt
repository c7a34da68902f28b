-- Private steps: only private contracts cite this module.
-- What a lookup reads, as what the probe reads.
use Rattle.gdb_index_format.specs.Probe as format
use Rattle.gdb_index.specs.declared.reader.ProbeStep.{ProbeStep}
use Rattle.gdb_index.specs.declared.reader.ProbeStep.TheVariants.{Ends, Passes}

-- a probe step as that of the format
abbrev pub seen_step : ProbeStep → format.ProbeStep
seen_step (Ends answer) = format.Ends answer
seen_step Passes = format.Passes
