-- How a relay is opened, by what its settings were found to be.
use Rattle.std.proofs.Common.{◌≡◌, ◌≢◌, ℕ, List, Result, Ok, Err, sym, subst}
use Rattle.std.specs.Prelude.{IfOk, IfErr}
use Rattle.fwd_settings.specs.declared.fault.SettingsFault.{SettingsFault}
use Rattle.fwd_settings.specs.declared.fault.SettingsFault.TheVariants as faults
use Rattle.fwd_model.specs.declared.config.Config.{Config}
use Rattle.fwd_model.specs.History.{opening}
use Rattle.fwd_model.specs.Live.{LiveRelay, live}
use Rattle.fwd_script.specs.Configs.{Configures}
use Rattle.fwd_script.specs.Replay.{Opens}
use Rattle.fwd_script.specs.Statuses.{refused_status}
use Rattle.fwd_script.specs.declared.status.Status.{Status}
use Rattle.fwd_script.specs.declared.status.Status.TheVariants.{Memory}

abbrev refused : Status → Result LiveRelay Status
refused status = Err status

abbrev wanting : Result Config SettingsFault
wanting = Err faults.Memory

-- a fault of the settings is told as that fault, and out of memory as itself
by_fault : (text : List ℕ) (fault : SettingsFault) (r : Result LiveRelay Status)
    → (Err fault ≢ wanting → Configures text (Err fault)) → r ≡ refused (refused_status fault)
    → Opens text r
by_fault text faults.Memory r is e = rw e tt
by_fault text faults.Unreadable r is e = rw e (is (λ w. absurd cc))
by_fault text faults.NotToml r is e = rw e (is (λ w. absurd cc))
by_fault text (faults.Missing key) r is e = rw e (is (λ w. absurd cc))
by_fault text (faults.WrongKind key) r is e = rw e (is (λ w. absurd cc))
by_fault text (faults.OutOfRange key) r is e = rw e (is (λ w. absurd cc))
by_fault text (faults.Unknown key) r is e = rw e (is (λ w. absurd cc))
by_fault text (faults.BadPattern key) r is e = rw e (is (λ w. absurd cc))

pub opened_opens : (text : List ℕ) (found : Result Config SettingsFault)
    (r : Result LiveRelay Status)
    → (found ≢ wanting → Configures text found)
    → IfOk r (λ relay. (config : Config) × (found ≡ Ok config) × (relay ≡ live (opening config)))
    → IfErr found (λ fault. r ≡ Err (refused_status fault))
    → IfOk found (λ _. IfErr r (λ status. status ≡ Memory))
    → Opens text r
opened_opens text (Err fault) r is made told memory = by_fault text fault r is told
opened_opens text (Ok config) (Ok relay) is made told memory =
    let same : config ≡ made.0 = cc in
    (config, is (λ e. absurd cc), subst (λ (x : Config). relay ≡ live (opening x)) (sym same) made.2)
opened_opens text (Ok config) (Err status) is made told memory = rw memory tt
