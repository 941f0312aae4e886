use Rattle.std.proofs.Common.{refl}
use Rattle.paseto_pem.proofs.label.Label.begin_boundary.Goals as goal

pub returns-in-PrivateKey : goal.returns-in-PrivateKey
returns-in-PrivateKey c = rw c.in-PrivateKey.is refl

pub returns-in-EncryptedPrivateKey : goal.returns-in-EncryptedPrivateKey
returns-in-EncryptedPrivateKey c = rw c.in-EncryptedPrivateKey.is refl

pub returns-in-PublicKey : goal.returns-in-PublicKey
returns-in-PublicKey c = rw c.in-PublicKey.is refl

pub returns-in-EcPrivateKey : goal.returns-in-EcPrivateKey
returns-in-EcPrivateKey c = rw c.in-EcPrivateKey.is refl

pub returns-in-RsaPrivateKey : goal.returns-in-RsaPrivateKey
returns-in-RsaPrivateKey c = rw c.in-RsaPrivateKey.is refl

pub returns-in-RsaPublicKey : goal.returns-in-RsaPublicKey
returns-in-RsaPublicKey c = rw c.in-RsaPublicKey.is refl

pub returns-in-OpenSshPrivateKey : goal.returns-in-OpenSshPrivateKey
returns-in-OpenSshPrivateKey c = rw c.in-OpenSshPrivateKey.is refl
