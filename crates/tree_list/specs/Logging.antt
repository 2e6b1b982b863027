-- A record added to a log.
use Rattle.std.specs.Prelude.{◌+◌, set}
use Rattle.model.specs.declared.Record.{Record}
use Rattle.model.specs.declared.Log.{Log}

abbrev pub logged : Log → Record → Log
logged l x = record { records = set l.records l.len x; len = l.len + 1 }
