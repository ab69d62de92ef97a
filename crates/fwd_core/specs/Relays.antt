-- A connection before its first byte.
use Rattle.fwd_source.specs.History.{Setup}
use Rattle.fwd_source.specs.Live.{opened_source}
use Rattle.fwd_model.specs.Live.{LiveConnection}

-- a connection before its first byte
abbrev pub new_live_connection : Setup → LiveConnection
new_live_connection setup = record { id = setup.conn; source = opened_source setup }
