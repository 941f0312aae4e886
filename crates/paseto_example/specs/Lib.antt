pub mod KeyedHashScheme
